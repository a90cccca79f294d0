-- Laws of the search, as the code meets them: a sample more, the search from s; a TC is over. Assumes nothing.
use Rattle.std.specs.Prelude.{ℕ, zero, suc, ◌+◌, ◌-◌, ◌≤◌, ◌<◌, ◌≡◌, refl, Bool, true, false, not, ◌&&◌, ◌||◌, List, ltb, length}
use Rattle.std.proofs.Common.{sym, ◌∙◌, true≢false, arith, ltb-true, ltb-false}
use Rattle.ground.specs.Search.{least}
use Rattle.ground.specs.SearchLaws.{IsLeast, least_found, least_none}
use Rattle.ground.specs.TestsLaws.{and_left}
use Rattle.samples.specs.SampleLaws.{over_amp}
use Rattle.search.specs.Search.{amp_at, over, first_over, over_in, starts, next_tc, tc_from, early}
use Rattle.search.specs.Asked.{IsOver}

-- ---- a sample more

pub over_at : (w : List ℕ) (t k : ℕ) → over w t k ≡ ltb t (amp_at w k)
unfolding over amp_at
over_at w t k = over_amp t _

pub starts_after : (w : List ℕ) (t k : ℕ) (was : Bool) → over w t k ≡ was → starts w t (k + 1) ≡ over w t (k + 1) && not was
unfolding starts
starts_after w t k was h =
    let e : k + 1 - 1 ≡ k = omega arith in
    rw (e, h)

-- ---- the search from s

pub tc_first : (w : List ℕ) (t s : ℕ) → s ≡ 0 → first_over w t (length w) ≡ tc_from w t s
unfolding tc_from
tc_first w t s h = rw h

pub tc_next : (w : List ℕ) (t s : ℕ) → (s ≡ 0 → ⊥) → next_tc w t s ≡ tc_from w t s
unfolding tc_from
tc_next w t zero h = absurd (h refl)
tc_next w t (suc s) h = refl

-- ---- a TC is over

pub tc_over : (w : List ℕ) (t s tc : ℕ) → tc ≡ tc_from w t s → (tc ≡ 0 → ⊥) → IsOver w t tc
unfolding tc_from first_over next_tc starts
tc_over w t zero tc h g =
    let r : IsLeast (over w t) 0 (length w) tc = least_found _ _ _ _ h (omega arith) in
    record { from = r.after; to = r.within; higher = ltb-true _ _ (sym (over_at w t tc) ∙ r.holds) }
tc_over w t (suc s) tc h g =
    let r : IsLeast (starts w t) (suc s) (length w) tc = least_found _ _ _ _ h (omega arith) in
    record { from = omega arith; to = r.within; higher = ltb-true _ _ (sym (over_at w t tc) ∙ and_left _ _ r.holds) }

-- ---- the first four

-- not early: there are four samples, and none of the first four is over
pub record Quiet (w : List ℕ) (t : ℕ) : Type 0 where
  pub four : 4 ≤ length w
  pub none : (j : ℕ) → 0 < j → j ≤ 4 → amp_at w j ≤ t

pub quiet : (w : List ℕ) (t : ℕ) → early w t ≡ false → Quiet w t
unfolding early over_in first_over
quiet w t h = go (ltb (length w) 4) refl h
  where
    go : (b : Bool) → ltb (length w) 4 ≡ b → b || ltb 0 (least (over w t) 0 4) ≡ false → Quiet w t
    go true q e = absurd (true≢false e)
    go false q e =
        let z : least (over w t) 0 4 ≡ 0 = omega (arith, ltb-false 0 (least (over w t) 0 4) e) in
        record { four = ltb-false _ _ q; none = λ j a b. ltb-false _ _ (sym (over_at w t j) ∙ least_none _ _ _ z j a b) }
