-- The words that a block with windows is full of. No call from C rests on it. Assumes nothing.
use Rattle.std.specs.Prelude.{ℕ, Bool, ◌&&◌, eqb}
use Rattle.fields.specs.Word.{read}

-- a pair of two samples: bit 31, the bits shown zero and both flags are clear
unfoldable pub plain : ℕ → Bool
plain word = eqb (read 31 29 word) 0 && eqb (read 15 13 word) 0
