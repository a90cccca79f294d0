-- The reader's answers in document 01's own numbers, and what its two steps promise. "If an answer is an enum, a definition gives this
-- paper's number and values for each of its cases." Assumes nothing.
use Rattle.std.specs.Prelude.{ℕ, ◌≡◌, cond, List, [], ◌∷◌, map, eqb, drop}
use Rattle.fields.specs.Word.{Field}
use Rattle.items.specs.Items.{row_of, form_of, item_from, tag_fields}
use Rattle.items.specs.declared.Form.{Form}
use Rattle.items.specs.declared.Form.TheVariants as F
use Rattle.items.specs.declared.Item.{Item}
use Rattle.scan.specs.declared.Scan.{Scan}
use Rattle.meaning.specs.declared.Meaning.{Meaning}
use Rattle.meaning.specs.declared.Meaning.TheVariants as M
use Rattle.meaning.specs.Meaning.{meaning_at, is_end}
use Rattle.questions.specs.Questions.{refusal_of}
use Rattle.reader.specs.Step.{Step}
use Rattle.reader.specs.Step as S
use Rattle.reader.specs.Judged.{Judged}
use Rattle.reader.specs.Judged as J
use Rattle.reader.specs.Reader.{step_at, judge_at}

-- ---- a record's type and fields

-- the row's type in the table: "0, parameters (continuation)" and "3, second (continuation)" have theirs, and the scalers' words that of type 12; a pair has none, 16
abbrev pub row_type : Form → ℕ
row_type F.Block = 0
row_type F.Parameters = 0
row_type F.Trailer = 1
row_type F.Event = 2
row_type F.Clock = 3
row_type F.ClockHigh = 3
row_type F.Window = 4
row_type F.Raw = 6
row_type F.Pair = 16
row_type F.Integral = 7
row_type F.Time = 8
row_type F.Pedestal = 10
row_type F.Empty = 14
row_type F.Filler = 15
row_type F.Scalers = 12
row_type F.Scaler = 12

-- "fields, high to low": the row behind its tag, where the word has one
abbrev pub row_fields : Item → List ℕ
row_fields x = drop (tag_fields (form_of x)) (map (λ (f : Field). f.value) (row_of x))

abbrev pub item_values : Item → List ℕ
item_values x = row_type (form_of x) ∷ row_fields x

-- ---- the answers

-- the number of the refusal, 0 where there is none
abbrev pub step_number : Step → ℕ
step_number (S.Went f t) = 0
step_number (S.Refused n p) = n
step_number S.Ended = 0

-- of a word that is taken its type, of a refusal its place
abbrev pub step_values : Step → List ℕ
step_values (S.Went f t) = row_type f ∷ []
step_values (S.Refused n p) = p ∷ []
step_values S.Ended = []

abbrev pub judged_number : Judged → ℕ
judged_number (J.Took x t) = 0
judged_number (J.Refused n p) = n
judged_number J.Ended = 0

-- of a word that is taken its type and its fields, of a refusal its place
abbrev pub judged_values : Judged → List ℕ
judged_values (J.Took x t) = item_values x
judged_values (J.Refused n p) = p ∷ []
judged_values J.Ended = []

-- ---- what is asked of a word

-- the number of its refusal: 0 where the block ends before it, and where no row of the table holds
unfoldable pub number_at : Scan → ℕ → ℕ
number_at s word = cond (is_end (meaning_at s word)) 0 (refusal_of s (meaning_at s word) word)

-- those values where it is taken; "The refusal names the word's place"; nothing where the block ends before it
abbrev pub values_by : Scan → Meaning → ℕ → (Form → List ℕ) → List ℕ
values_by s (M.Form f) refusal values = cond (eqb refusal 0) (values f) (s.place ∷ [])
values_by s M.Unallowed refusal values = s.place ∷ []
values_by s M.End refusal values = []

unfoldable pub values_at : Scan → ℕ → (Form → List ℕ) → List ℕ
values_at s word values = values_by s (meaning_at s word) (refusal_of s (meaning_at s word) word) values

pub record StepSays (s : Scan) (word : ℕ) (r : Step) : Type 0 where
  pub number : step_number r ≡ number_at s word
  pub values : step_values r ≡ values_at s word (λ f. row_type f ∷ [])
  pub answer : r ≡ step_at s word

pub record JudgedSays (s : Scan) (word : ℕ) (r : Judged) : Type 0 where
  pub number : judged_number r ≡ number_at s word
  pub values : judged_values r ≡ values_at s word (λ f. item_values (item_from f word))
  pub answer : r ≡ judge_at s word
