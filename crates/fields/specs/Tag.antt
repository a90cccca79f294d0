-- Document 01: how a word says what it is. Assumes nothing.
use Rattle.std.specs.Prelude.{ℕ, Bool, ◌&&◌, List, ◌∷◌, eqb}
use Rattle.fields.specs.Word.{Field, bits, read}

-- "A defining word has bit 31 set and its type in bits 30-27."
abbrev pub defining : ℕ → List Field → List Field
defining type fields = bits 31 31 1 ∷ bits 30 27 type ∷ fields

unfoldable pub is_defining : ℕ → ℕ → Bool
is_defining type word = eqb (read 31 31 word) 1 && eqb (read 30 27 word) type

-- "A continuation word has bit 31 clear."
abbrev pub continuation : List Field → List Field
continuation fields = bits 31 31 0 ∷ fields

unfoldable pub is_continuation : ℕ → Bool
is_continuation word = eqb (read 31 31 word) 0

-- a proof that computes opens this file and what it leans on by one name
unfoldable pub all_open : Unit {0}
unfolding is_defining is_continuation Rattle.fields.specs.Word.all_open
all_open = tt
