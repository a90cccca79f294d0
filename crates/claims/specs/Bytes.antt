-- Words and text as bytes. Assumes nothing.
use Rattle.std.specs.Prelude.{ℕ, List, [], ◌∷◌, ◌++◌}
use Prim.Native.Char.{code}
use Prim.Native.String.{String, [] as []ᵗ, ◌∷◌ as ◌∷ᵗ◌}
use Rattle.fields.specs.Bytes.{bytes_of}

-- "It passes a block as bytes, big-endian"
abbrev pub bytes_of_words : List ℕ → List ℕ
bytes_of_words [] = []
bytes_of_words (w ∷ ws) = bytes_of w ++ bytes_of_words ws

-- a text, a byte a letter
unfoldable pub bytes_of_text : String → List ℕ
bytes_of_text []ᵗ = []
bytes_of_text (c ∷ᵗ s) = code c ∷ bytes_of_text s

-- lines, each with its line feed
unfoldable pub bytes_of_lines : List String → List ℕ
bytes_of_lines [] = []
bytes_of_lines (l ∷ ls) = bytes_of_text l ++ (10 ∷ bytes_of_lines ls)

-- a proof that computes opens this file and what it leans on by one name
unfoldable pub all_open : Unit {0}
unfolding bytes_of_text bytes_of_lines Rattle.fields.specs.Bytes.all_open
all_open = tt
