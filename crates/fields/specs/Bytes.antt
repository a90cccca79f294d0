-- A word as four bytes, big-endian: the highest first. Assumes nothing.
use Rattle.std.specs.Prelude.{ℕ, List, [], ◌∷◌}
use Rattle.fields.specs.Word.{Field, bits, read, pack}

abbrev pub four_bytes : ℕ → ℕ → ℕ → ℕ → List Field
four_bytes a b c d = bits 31 24 a ∷ bits 23 16 b ∷ bits 15 8 c ∷ bits 7 0 d ∷ []

-- the word of four bytes
abbrev pub word_of_bytes : ℕ → ℕ → ℕ → ℕ → ℕ
word_of_bytes a b c d = pack (four_bytes a b c d)

-- the bytes of a word
abbrev pub bytes_of : ℕ → List ℕ
bytes_of word = read 31 24 word ∷ read 23 16 word ∷ read 15 8 word ∷ read 7 0 word ∷ []

-- four bytes a word; up to three bytes at the end are none
abbrev pub words_of_bytes : List ℕ → List ℕ
words_of_bytes [] = []
words_of_bytes (a ∷ []) = []
words_of_bytes (a ∷ b ∷ []) = []
words_of_bytes (a ∷ b ∷ c ∷ []) = []
words_of_bytes (a ∷ b ∷ c ∷ d ∷ bytes) = word_of_bytes a b c d ∷ words_of_bytes bytes

-- a proof that computes opens this file and what it leans on by one name
unfoldable pub all_open : Unit {0}
unfolding Rattle.fields.specs.Word.all_open
all_open = tt
