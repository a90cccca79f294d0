-- The answers' numbers and values are those that the promises name. Assumes nothing.
use Rattle.std.specs.Prelude.{ℕ, ◌≡◌, refl, Bool, true, false, cond, [], ◌∷◌, eqb}
use Rattle.std.proofs.Common.{sym, ◌∙◌, eqb-true}
use Rattle.std.proofs.Math.Path.{ap}
use Rattle.items.specs.Items.{item_from}
use Rattle.items.specs.declared.Form.{Form}
use Rattle.scan.specs.declared.Scan.{Scan}
use Rattle.scan.specs.After.{after}
use Rattle.meaning.specs.declared.Meaning.{Meaning}
use Rattle.meaning.specs.declared.Meaning.TheVariants as M
use Rattle.meaning.specs.Meaning.{meaning_at, is_end}
use Rattle.questions.specs.Questions.{refusal_of}
use Rattle.reader.specs.Step.{Step}
use Rattle.reader.specs.Step as S
use Rattle.reader.specs.Judged.{Judged}
use Rattle.reader.specs.Judged as J
use Rattle.reader.specs.Reader.{step_by, step_at, with_item, judge_at}
use Rattle.reader.specs.ReaderLaws.{judge_by}
use Rattle.reader.specs.Answers.{row_type, item_values, step_number, step_values, judged_number, judged_values, number_at, values_by, values_at, StepSays, JudgedSays}

module _ (s : Scan) (word : ℕ) where
  number_by : (m : Meaning) (refusal : ℕ) → step_number (step_by s m word refusal) ≡ cond (is_end m) 0 refusal
  number_by (M.Form f) refusal = go (eqb refusal 0) refl
    where
      go : (b : Bool) → eqb refusal 0 ≡ b → step_number (cond b (S.Went f (after s (item_from f word))) (S.Refused refusal s.place)) ≡ refusal
      go true e = sym (eqb-true refusal 0 e)
      go false e = refl
  number_by M.Unallowed refusal = refl
  number_by M.End refusal = refl

  step_number_lem : step_number (step_at s word) ≡ number_at s word
  unfolding step_at number_at
  step_number_lem = number_by (meaning_at s word) (refusal_of s (meaning_at s word) word)

  values_by_lem : (m : Meaning) (refusal : ℕ) → step_values (step_by s m word refusal) ≡ values_by s m refusal (λ f. row_type f ∷ [])
  values_by_lem (M.Form f) refusal = go (eqb refusal 0)
    where
      go : (b : Bool) → step_values (cond b (S.Went f (after s (item_from f word))) (S.Refused refusal s.place)) ≡ cond b (row_type f ∷ []) (s.place ∷ [])
      go true = refl
      go false = refl
  values_by_lem M.Unallowed refusal = refl
  values_by_lem M.End refusal = refl

  step_values_lem : step_values (step_at s word) ≡ values_at s word (λ f. row_type f ∷ [])
  unfolding step_at values_at
  step_values_lem = values_by_lem (meaning_at s word) (refusal_of s (meaning_at s word) word)

  judged_number_lem : (t : Step) → judged_number (with_item word t) ≡ step_number t
  judged_number_lem (S.Went f u) = refl
  judged_number_lem (S.Refused n p) = refl
  judged_number_lem S.Ended = refl

  fields_by : (m : Meaning) (refusal : ℕ) → judged_values (with_item word (step_by s m word refusal)) ≡ values_by s m refusal (λ f. item_values (item_from f word))
  fields_by (M.Form f) refusal = go (eqb refusal 0)
    where
      go : (b : Bool) → judged_values (with_item word (cond b (S.Went f (after s (item_from f word))) (S.Refused refusal s.place))) ≡ cond b (item_values (item_from f word)) (s.place ∷ [])
      go true = refl
      go false = refl
  fields_by M.Unallowed refusal = refl
  fields_by M.End refusal = refl

  judged_values_lem : judged_values (with_item word (step_at s word)) ≡ values_at s word (λ f. item_values (item_from f word))
  unfolding step_at values_at
  judged_values_lem = fields_by (meaning_at s word) (refusal_of s (meaning_at s word) word)

  pub step_says : {r : Step} → r ≡ step_at s word → StepSays s word r
  step_says e = record { number = ap step_number e ∙ step_number_lem; values = ap step_values e ∙ step_values_lem; answer = e }

  pub judge_says : {r : Judged} → r ≡ judge_at s word → JudgedSays s word r
  unfolding judge_at
  judge_says e =
      record {
        number = ap judged_number e ∙ judged_number_lem (step_at s word) ∙ step_number_lem;
        values = ap judged_values e ∙ judged_values_lem;
        answer = e;
      }

  -- the same from what the step is
  pub judge_went : (f : Form) (u : Scan) → S.Went f u ≡ step_at s word → JudgedSays s word (J.Took (item_from f word) u)
  judge_went f u e = judge_says (sym (judge_by s word (sym e)))

  pub judge_refused : (n p : ℕ) → S.Refused n p ≡ step_at s word → JudgedSays s word (J.Refused n p)
  judge_refused n p e = judge_says (sym (judge_by s word (sym e)))

  pub judge_ended : S.Ended ≡ step_at s word → JudgedSays s word J.Ended
  judge_ended e = judge_says (sym (judge_by s word (sym e)))

pub ruleset judged_step = (judge_went, judge_refused, judge_ended)
