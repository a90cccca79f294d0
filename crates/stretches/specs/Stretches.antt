-- Words of bytes that are known by their bits alone, one by one and in a row from the first on. Assumes nothing.
use Rattle.std.specs.Prelude.{ℕ, suc, ◌+◌, ◌*◌, ◌≤◌, ◌<◌, ◌≡◌, Bool, true, false, cond, ◌&&◌, ◌||◌, List, [], ◌∷◌, eqb, length, get_or}
use Rattle.fields.specs.Word.{read}
use Rattle.fields.specs.Tag.{is_defining}
use Rattle.fields.specs.Bytes.{word_of_bytes, words_of_bytes}
use Rattle.measures.specs.Words.{time_fixed}

-- the word of number k, its bytes joined lowest first
abbrev pub turned_at : List ℕ → ℕ → ℕ
turned_at bytes k = word_of_bytes (get_or bytes (4 * k + 3) 0) (get_or bytes (4 * k + 2) 0) (get_or bytes (4 * k + 1) 0) (get_or bytes (4 * k) 0)

-- ---- words; of plain pairs see `raw`

-- a pair of one sample: the second flag is set, and its sample is 0
unfoldable pub single : ℕ → Bool
single word = eqb (read 31 29 word) 0 && eqb (read 15 0 word) 8192

-- an integral, a pedestal, or a time whose bits shown zero are zero
unfoldable pub measure : ℕ → Bool
measure word = (is_defining 7 word || is_defining 10 word) || (is_defining 8 word && time_fixed word)

-- ---- words in a row

-- how many words pass the test before the first that does not
unfoldable pub leading : (ℕ → Bool) → List ℕ → ℕ
leading p [] = 0
leading p (word ∷ words) = cond (p word) (suc (leading p words)) 0

-- whether all words pass it
unfoldable pub every : (ℕ → Bool) → List ℕ → Bool
every p [] = true
every p (word ∷ words) = p word && every p words

-- there are k words, and they are such
pub record Row (p : ℕ → Bool) (bytes : List ℕ) (k : ℕ) : Type 0 where
  pub within : 4 * k ≤ length bytes
  pub each : (i : ℕ) → i < k → p (get_or (words_of_bytes bytes) i 0) ≡ true

-- what a test of them says: they are such, or not all words are
pub record Told (p : ℕ → Bool) (bytes : List ℕ) (k : ℕ) (good : Bool) : Type 0 where
  pub yes : good ≡ true → Row p bytes k
  pub no : good ≡ false → every p (words_of_bytes bytes) ≡ false

-- the words from k to before r are such
pub record All (p : ℕ → Bool) (words : List ℕ) (k r : ℕ) : Type 0 where
  pub ahead : k ≤ r
  pub each : (i : ℕ) → k ≤ i → i < r → p (get_or words i 0) ≡ true
