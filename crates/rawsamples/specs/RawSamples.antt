-- The samples of pairs: document 01, "The words". Assumes nothing.
use Rattle.std.specs.Prelude.{ℕ, cond, List, [], ◌∷◌, ◌++◌, eqb}
use Rattle.fields.specs.Word.{read}

-- a sample, where its flag does not say "not valid"
abbrev pub if_valid : ℕ → ℕ → List ℕ
if_valid flag sample = cond (eqb flag 0) (sample ∷ []) []

-- "29 first not valid, 28-16 first sample, .. 13 second not valid, 12-0 second"
abbrev pub samples_of_pair : ℕ → List ℕ
samples_of_pair word = if_valid (read 29 29 word) (read 28 16 word) ++ if_valid (read 13 13 word) (read 12 0 word)

-- of pairs in their order
unfoldable pub samples_of : List ℕ → List ℕ
samples_of [] = []
samples_of (word ∷ words) = samples_of_pair word ++ samples_of words

-- a proof that computes opens this file and what it leans on by one name
unfoldable pub all_open : Unit {0}
unfolding samples_of Rattle.fields.specs.Word.all_open
all_open = tt
