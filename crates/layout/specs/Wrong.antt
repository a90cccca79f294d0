-- Demand 2: "A block that breaks the layout is refused at its first wrong word": what is asked at a word and at the input's end, which words stand where
-- they are, and which is the first that does not. Nothing of a run is used here. Assumes nothing.
use Rattle.std.specs.Prelude.{ℕ, suc, ◌≡◌, Bool, cond, List, [], ◌∷◌, eqb, drop}
use Rattle.ground.specs.Tests.{first_of, FirstIs}
use Rattle.items.specs.Items.{item_from}
use Rattle.items.specs.declared.Form.{Form}
use Rattle.scan.specs.declared.Scan.{Scan}
use Rattle.scan.specs.After.{after}
use Rattle.meaning.specs.declared.Meaning.{Meaning}
use Rattle.meaning.specs.declared.Meaning.TheVariants as M
use Rattle.meaning.specs.Meaning.{meaning_at, is_end, unfinished}
use Rattle.questions.specs.Questions.{at_limit, refusals}

-- ---- what is asked

-- "At each word, in this order: 14 if no trailer was read and its place is 4,194,303; 11 no word left; 12 ..; 15 ..; 13 ..; 14 .."; the words are those
-- from the scan on, and where the block ends "before a word that is no filler" nothing is asked of that word
abbrev pub questions : Scan → List ℕ → List (ℕ × Bool)
questions s [] = (14, at_limit s) ∷ (11, unfinished s) ∷ []
questions s (w ∷ ws) = cond (is_end (meaning_at s w)) [] (refusals s (meaning_at s w) w)

-- ---- the first wrong word

-- the word stands where it is: it is a record of the block's, and no question is answered by a refusal
pub record Right (s : Scan) (w : ℕ) (f : Form) : Type 0 where
  pub form : meaning_at s w ≡ M.Form f
  pub none : FirstIs (questions s (w ∷ [])) 0

-- from s on the first k words stand where they are, and behind them the reading stands at t
pub data Upto : Scan → List ℕ → ℕ → Scan → Type 0 where
  here : {s : Scan} {ws : List ℕ} → Upto s ws 0 s
  on : {s t : Scan} {w : ℕ} {f : Form} {ws : List ℕ} {k : ℕ} → Right s w f → Upto (after s (item_from f w)) ws k t → Upto s (w ∷ ws) (suc k) t

-- the k words before stand where they are; then, at a word or at the input's end, n is the number of the first question that refuses
pub record WrongAt (s : Scan) (ws : List ℕ) (n k : ℕ) : Type 0 where
  pub to : Scan
  pub before : Upto s ws k to
  pub first : FirstIs (questions to (drop k ws)) n
  pub some : n ≡ 0 → ⊥

-- the same by the place that the scan has at the wrong word; from a block's start on that is the number of words before it (`first_wrong`)
pub record WrongBy (s : Scan) (ws : List ℕ) (n p : ℕ) : Type 0 where
  pub words : ℕ
  pub wrong : WrongAt s ws n words
  pub place : wrong.to.place ≡ p

-- a reading goes on behind a word that stands where it is
abbrev pub stop_by : Scan → ℕ → List ℕ → Meaning → (Scan → Scan × List ℕ) → Scan × List ℕ
stop_by s w ws (M.Form f) go = cond (eqb (first_of (refusals s (M.Form f) w)) 0) (go (after s (item_from f w))) (s, w ∷ ws)
stop_by s w ws M.Unallowed go = (s, w ∷ ws)
stop_by s w ws M.End go = (s, w ∷ ws)

-- where a reading stops: the scan at the first word that does not stand where it is, or at the input's end, and the words from there on
unfoldable pub stop_of : Scan → List ℕ → Scan × List ℕ
stop_of s [] = (s, [])
stop_of s (w ∷ ws) = stop_by s w ws (meaning_at s w) (λ t. stop_of t ws)
