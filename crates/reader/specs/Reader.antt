-- Document 01, "Reading": the judgement of one word, and a run over words. Assumes nothing.
use Rattle.std.specs.Prelude.{ℕ, cond, List, [], ◌∷◌, eqb}
use Rattle.ground.specs.Tests.{first_of}
use Rattle.items.specs.Items.{item_from}
use Rattle.items.specs.declared.Item.{Item}
use Rattle.scan.specs.declared.Scan.{Scan}
use Rattle.scan.specs.After.{after}
use Rattle.meaning.specs.declared.Meaning.{Meaning}
use Rattle.meaning.specs.declared.Meaning.TheVariants as M
use Rattle.meaning.specs.Meaning.{meaning_at, unfinished}
use Rattle.questions.specs.Questions.{at_limit, refusal_of}
use Rattle.reader.specs.Step.{Step}
use Rattle.reader.specs.Step as S
use Rattle.reader.specs.Judged.{Judged}
use Rattle.reader.specs.Judged as J

-- ---- the judgement of one word

-- "The refusal names the word's place, from 0 at its block's first word."
abbrev pub step_by : Scan → Meaning → ℕ → ℕ → Step
step_by s (M.Form f) word refusal = cond (eqb refusal 0) (S.Went f (after s (item_from f word))) (S.Refused refusal s.place)
step_by s M.Unallowed word refusal = S.Refused refusal s.place
step_by s M.End word refusal = S.Ended

-- the word's form and the scan after it, the number of its refusal and its place, or that the block ends before it
unfoldable pub step_at : Scan → ℕ → Step
step_at s word = step_by s (meaning_at s word) word (refusal_of s (meaning_at s word) word)

abbrev pub with_item : ℕ → Step → Judged
with_item word (S.Went f t) = J.Took (item_from f word) t
with_item word (S.Refused n p) = J.Refused n p
with_item word S.Ended = J.Ended

-- the same with the record
unfoldable pub judge_at : Scan → ℕ → Judged
judge_at s word = with_item word (step_at s word)

-- ---- a run over words

-- how a run ends: a whole block of so many words, or a refusal and its place
pub data Out : Type 0 where
  Whole : ℕ → Out
  Broken : ℕ → ℕ → Out

-- the input's end: "11 no word left"; behind the trailer the block ends here
unfoldable pub end_of : Scan → Out
end_of s = cond (at_limit s) (Broken 14 s.place) (cond (unfinished s) (Broken 11 s.place) (Whole s.place))

-- the same as a number, "14 if no trailer was read and its place is 4,194,303; 11 no word left"; 0 where the block is whole
unfoldable pub end_number : Scan → ℕ
end_number s = first_of ((14, at_limit s) ∷ (11, unfinished s) ∷ [])

abbrev pub out_of : ℕ → ℕ → Out
out_of refusal place = cond (eqb refusal 0) (Whole place) (Broken refusal place)

pub record Reading : Type 0 where
  pub items : List Item
  pub out : Out

abbrev pub then : Item → Reading → Reading
then x r = record { items = x ∷ r.items; out = r.out }

abbrev pub just : Out → Reading
just o = record { items = []; out = o }

abbrev pub on_judged : Judged → ℕ → (Scan → Reading) → Reading
on_judged (J.Took x t) place go = then x (go t)
on_judged (J.Refused n p) place go = just (Broken n p)
on_judged J.Ended place go = just (Whole place)

-- all records from s on, and how it ends
unfoldable pub read_from : Scan → List ℕ → Reading
read_from s [] = just (end_of s)
read_from s (word ∷ words) = on_judged (judge_at s word) s.place (λ t. read_from t words)

abbrev pub on_step : Step → ℕ → (Scan → Out) → Out
on_step (S.Went f t) place go = go t
on_step (S.Refused n p) place go = Broken n p
on_step S.Ended place go = Whole place

-- how it ends, no record made
unfoldable pub check_from : Scan → List ℕ → Out
check_from s [] = end_of s
check_from s (word ∷ words) = on_step (step_at s word) s.place (λ t. check_from t words)

-- a proof that computes opens this file and what it leans on by one name
unfoldable pub all_open : Unit {0}
unfolding step_at judge_at end_of end_number read_from check_from Rattle.ground.specs.Tests.all_open Rattle.items.specs.Items.all_open Rattle.meaning.specs.Meaning.all_open Rattle.scan.specs.After.all_open Rattle.questions.specs.Questions.all_open
all_open = tt
