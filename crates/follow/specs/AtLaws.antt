-- What follows, from the word at a place, of which it is known what it does. Assumes nothing.
use Rattle.std.specs.Prelude.{ℕ, ◌+◌, ◌<◌, ◌≤◌, ◌≡◌, None, List, [], ◌∷◌, length, get_or, drop}
use Rattle.std.proofs.Common.{◌∙◌, arith, refl, drop_of_length-le}
use Rattle.std.proofs.Math.Path.{ap}
use Rattle.scan.specs.After.{onward}
use Rattle.reader.specs.Reader.{step_at, judge_at}
use Rattle.reader.specs.RunLaws.{cons_at}
use Rattle.scan.specs.declared.Scan.{Scan}
use Rattle.items.specs.declared.Form.{Form}
use Rattle.reader.specs.Step as S
use Rattle.reader.specs.Step.{Step}
use Rattle.reader.specs.Judged.{Judged}
use Rattle.follow.specs.Follow.{on_high, high_from, on_filler, fill_from}

pub high_none : (t : Scan) (words : List ℕ) → length words < 1 → high_from t words ≡ None
unfolding high_from
high_none t [] h = refl
high_none t (word ∷ words) h = absurd (omega arith)

pub high_some : (t : Scan) (words : List ℕ) (y : Judged) → 1 ≤ length words → y ≡ judge_at t (get_or words 0 0) → high_from t words ≡ on_high y
unfolding high_from
high_some t [] y h e = absurd (omega arith)
high_some t (word ∷ words) y h e = rw (← e)

module _ (words : List ℕ) (i n : ℕ) (t : Scan) (h : i < length words) where
  here : {y : Step} → y ≡ step_at t (get_or words i 0) → fill_from n t (drop i words) ≡ on_filler y n t (λ u. fill_from (onward n) u (drop (i + 1) words))
  unfolding fill_from
  here e = ap (fill_from n t) (cons_at words i (i + 1) h (omega arith)) ∙ rw (← e)

  pub fill_went : (f : Form) (u : Scan) → S.Went f u ≡ step_at t (get_or words i 0) → fill_from n t (drop i words) ≡ fill_from (onward n) u (drop (i + 1) words)
  fill_went f u e = here e

  pub fill_ended : S.Ended ≡ step_at t (get_or words i 0) → fill_from n t (drop i words) ≡ record { count = n; scan = t }
  fill_ended e = here e

  pub fill_refused : (r p : ℕ) → S.Refused r p ≡ step_at t (get_or words i 0) → fill_from n t (drop i words) ≡ record { count = n; scan = t }
  fill_refused r p e = here e

pub fill_all : (words : List ℕ) (i n : ℕ) (t : Scan) → length words ≤ i → fill_from n t (drop i words) ≡ record { count = n; scan = t }
unfolding fill_from
fill_all words i n t h = ap (fill_from n t) (drop_of_length-le words h)

pub ruleset high_first = (high_none, high_some)

pub ruleset fill_next = (fill_went, fill_ended, fill_refused, fill_all)
