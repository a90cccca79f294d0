-- The pairs from the word at a place, of which it is known what it does. Assumes nothing.
use Rattle.std.specs.Prelude.{ℕ, ◌+◌, ◌<◌, ◌≤◌, ◌≡◌, refl, Bool, true, false, List, [], ◌∷◌, length, get_or, drop}
use Rattle.std.proofs.Math.Path.{ap}
use Rattle.std.proofs.Common.{◌∙◌, arith, drop_of_length-le}
use Rattle.fields.specs.Tag.{is_continuation}
use Rattle.items.specs.declared.Form.{Form}
use Rattle.scan.specs.After.{onward}
use Rattle.meaning.specs.Meaning.{unfinished_by}
use Rattle.reader.specs.Reader.{step_at, end_number}
use Rattle.reader.specs.RunLaws.{cons_at, unfinished_end}
use Rattle.scan.specs.declared.Stage.{Stage}
use Rattle.scan.specs.declared.Stage.TheVariants as P
use Rattle.scan.specs.declared.Scan.{Scan}
use Rattle.reader.specs.Step as S
use Rattle.reader.specs.Step.{Step}
use Rattle.rawitems.specs.Pairing as G
use Rattle.rawitems.specs.Pairs.{due_by, pair_due, on_pair, pairs_from}

-- a pair is due only in a block that is not finished, whose end is refused
pub due_unfinished : (p : Stage) (more : Bool) → due_by p more ≡ true → unfinished_by p ≡ true
due_unfinished P.Start more due = refl
due_unfinished P.Head more due = refl
due_unfinished P.Front more due = refl
due_unfinished P.Opened more due = refl
due_unfinished (P.Timed d) more due = refl
due_unfinished P.Items more due = refl
due_unfinished (P.Window n odd) more due = refl
due_unfinished (P.Raw n some) more due = refl
due_unfinished (P.Tail n) more due = due
due_unfinished (P.Scalers n) more due = refl

pub due_end : (s : Scan) → pair_due s false ≡ true → end_number s ≡ 0 → ⊥
due_end s due e = unfinished_end s (due_unfinished s.stage false due) e

pub pairs_bad : (s : Scan) (n : ℕ) → pair_due s false ≡ true → pairs_from s n [] ≡ G.Bad (end_number s) s.place
unfolding pairs_from
pairs_bad s n due = rw due

pub pairs_all : (s : Scan) (n : ℕ) → pair_due s false ≡ false → pairs_from s n [] ≡ G.All n s
unfolding pairs_from
pairs_all s n due = rw due

pub ruleset pairs_last = (due_end, pairs_bad, pairs_all)

module _ (words : List ℕ) (i n : ℕ) (t : Scan) (h : i < length words) where
  here : drop i words ≡ get_or words i 0 ∷ drop (i + 1) words
  here = cons_at words i (i + 1) h (omega arith)

  module _ (due : pair_due t (is_continuation (get_or words i 0)) ≡ true) where
    step : {y : Step} → y ≡ step_at t (get_or words i 0) → pairs_from t n (drop i words) ≡ on_pair y t n (λ u. pairs_from u (onward n) (drop (i + 1) words))
    unfolding pairs_from
    step e = ap (pairs_from t n) here ∙ rw (due, ← e)

    pub pairs_went : (f : Form) (u : Scan) → S.Went f u ≡ step_at t (get_or words i 0) → pairs_from t n (drop i words) ≡ pairs_from u (onward n) (drop (i + 1) words)
    pairs_went f u e = step e

    pub pairs_refused : (r p : ℕ) → S.Refused r p ≡ step_at t (get_or words i 0) → pairs_from t n (drop i words) ≡ G.Bad r p
    pairs_refused r p e = step e

    pub pairs_ended : S.Ended ≡ step_at t (get_or words i 0) → pairs_from t n (drop i words) ≡ G.All n t
    pairs_ended e = step e

  pub pairs_stop : pair_due t (is_continuation (get_or words i 0)) ≡ false → pairs_from t n (drop i words) ≡ G.All n t
  unfolding pairs_from
  pairs_stop due = ap (pairs_from t n) here ∙ rw due

pub pairs_none : (words : List ℕ) (i n : ℕ) (t : Scan) → length words ≤ i → pairs_from t n (drop i words) ≡ pairs_from t n []
pairs_none words i n t h = ap (pairs_from t n) (drop_of_length-le words h)

pub ruleset pairs_next = (pairs_went, pairs_refused, pairs_ended, pairs_stop, pairs_none)
