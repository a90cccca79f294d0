-- A run at one of the words, and what the check answers. Assumes nothing.
use Rattle.std.specs.Prelude.{ℕ, ◌+◌, ◌*◌, ◌%◌, ◌^◌, ◌<◌, ◌≤◌, ◌≡◌, refl, Bool, cond, true, false, List, eqb, length, get_or, drop}
use Rattle.std.proofs.Common.{ap, sym, ◌∙◌, arith, eqb-true, eq-eqb, drop_of_length-le}
use Rattle.fields.specs.Bytes.{words_of_bytes}
use Rattle.reader.specs.Reader.{Out, Whole, Broken, end_number, out_of, on_step, step_at, check_from}
use Rattle.scan.specs.After.{start_of}
use Rattle.items.specs.declared.Form.{Form}
use Rattle.reader.specs.RunLaws.{cons_at, check_at, end_by}
use Rattle.reader.specs.Step as S
use Rattle.scan.specs.declared.Scan.{Scan}
use Rattle.reader.specs.Step.{Step}
use Rattle.bytecheck.specs.Check.{number_of_out, check_number}

-- the run from the word of number k, by what was said of that word
module _ (words : List ℕ) (k : ℕ) (s : Scan) (h : k < length words) where
  here : {t : Step} → t ≡ step_at s (get_or words k 0) → check_from s (drop k words) ≡ on_step t s.place (λ v. check_from v (drop (k + 1) words))
  here e = ap (check_from s) (cons_at words k (k + 1) h (omega arith)) ∙ check_at s (get_or words k 0) (drop (k + 1) words) e

  pub run_went : (f : Form) (u : Scan) → S.Went f u ≡ step_at s (get_or words k 0) → check_from s (drop k words) ≡ check_from u (drop (k + 1) words)
  run_went f u e = here e

  pub run_refused : (n p : ℕ) → S.Refused n p ≡ step_at s (get_or words k 0) → check_from s (drop k words) ≡ Broken n p
  run_refused n p e = here e

  pub run_ended : S.Ended ≡ step_at s (get_or words k 0) → check_from s (drop k words) ≡ Whole s.place
  run_ended e = here e

-- no word is left
pub run_none : (words : List ℕ) (k : ℕ) (s : Scan) → length words ≤ k → check_from s (drop k words) ≡ out_of (end_number s) s.place
unfolding check_from
run_none words k s h = ap (check_from s) (drop_of_length-le words h) ∙ end_by s

-- an end with its refusal's number, 0 for none
pub out_number : (refusal place : ℕ) → refusal * 2 ^ 32 + place ≡ number_of_out (out_of refusal place)
out_number refusal place = go (eqb refusal 0) refl
  where
    go : (b : Bool) → eqb refusal 0 ≡ b → refusal * 2 ^ 32 + place ≡ number_of_out (cond b (Whole place) (Broken refusal place))
    go true h = let z : refusal ≡ 0 = eqb-true refusal 0 h in omega arith
    go false h = refl

-- what the check answers of a whole number of words
pub checked : (bytes : List ℕ) → length bytes % 4 ≡ 0 → {o : Out} → check_from start_of (words_of_bytes bytes) ≡ o → number_of_out o ≡ check_number bytes
unfolding check_number
checked bytes h e = rw (eq-eqb _ _ h) (ap number_of_out (sym e))
