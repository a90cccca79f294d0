-- Every time's numbers are in the ranges that the words hold. Assumes nothing.
use Rattle.std.specs.Prelude.{ℕ, ◌+◌, ◌-◌, ◌≤◌, ◌<◌, ◌≡◌, refl, Bool, true, false, List, eqb, length}
use Rattle.std.proofs.Common.{arith, eqb-true}
use Rattle.std.proofs.Math.Decide.{dec_le}
use Rattle.std.proofs.lemmas.Bool.{eqb-false}
use Rattle.samples.specs.Sample.{most_amp}
use Rattle.samples.specs.SampleLaws.{amp_le}
use Rattle.search.specs.Search.{amp_at, tc_from, early}
use Rattle.search.specs.Asked.{IsOver}
use Rattle.search.specs.SearchLaws.{tc_over}
use Rattle.timing.specs.declared.Rule.{Rule}
use Rattle.timing.specs.declared.Time.{Time}
use Rattle.timing.specs.Time.{vmin, first_fall, vmid, n1, tc_only, edge_time, time_at}
use Rattle.timing.specs.TimeLaws.{time_early, time_late, time_flat, time_edge}
use Rattle.timing.specs.Asked.{HasEdge}
use Rattle.timing.proofs.EdgeLaws.{four, has_edge, Crosses, crosses, fine_below}

pub amp_at_le : (w : List ℕ) (k : ℕ) → amp_at w k ≤ most_amp
unfolding amp_at
amp_at_le w k = amp_le _

vmin_le : (w : List ℕ) → vmin w ≤ most_amp
unfolding vmin
vmin_le w = omega (arith, four w, amp_at_le w 1, amp_at_le w 2, amp_at_le w 3, amp_at_le w 4)

-- a time in a window of n samples
pub record TimeFits (n : ℕ) (r : Time) : Type 0 where
  pub coarse : (1 ≤ r.coarse) × (r.coarse ≤ n)
  pub fine : r.fine ≤ 63
  pub vmin : r.vmin ≤ most_amp
  pub vpeak : r.vpeak ≤ most_amp

pub tc_fits : (n tc low : ℕ) (r : Rule) → 1 ≤ tc → tc ≤ n → low ≤ most_amp → TimeFits n (tc_only tc low r)
tc_fits n tc low r a b c = record { coarse = (a, b); fine = omega arith; vmin = c; vpeak = omega arith }

edge_fits : (w : List ℕ) (low peak : ℕ) → HasEdge w low peak → low ≤ most_amp → TimeFits (length w) (edge_time w low peak)
unfolding edge_time
edge_fits w low peak h l =
    let c : Crosses w (vmid (amp_at w peak) low) peak (n1 w (vmid (amp_at w peak) low) peak) = crosses w low peak _ _ _ h refl refl refl in
    record {
      coarse = (c.from, omega (arith, h.within));
      fine = omega (arith, fine_below _ _ _ c.low c.high);
      vmin = l;
      vpeak = amp_at_le w peak;
    }

pub time_fits : (w : List ℕ) (t tc : ℕ) → IsOver w t tc → TimeFits (length w) (time_at w t tc)
time_fits w t tc o = by_rule (early w t) refl
  where
    only : (low : ℕ) (r : Rule) → low ≤ most_amp → TimeFits (length w) (tc_only tc low r)
    only low r l = tc_fits _ tc low r o.from o.to l

    by_fall : early w t ≡ false → 5 ≤ length w - tc → (b : Bool) → eqb (first_fall w tc) 0 ≡ b → TimeFits (length w) (time_at w t tc)
    by_fall e g true h = rw (time_flat w t tc (vmin w) e refl (first_fall w tc) g refl (eqb-true _ _ h)) (only _ _ (vmin_le w))
    by_fall e g false h =
        let k = eqb-false (first_fall w tc) 0 h in
        rw (time_edge w t tc (vmin w) e refl (first_fall w tc) g refl k) (edge_fits w (vmin w) _ (has_edge w t tc _ e o refl k) (vmin_le w))

    by_rule : (b : Bool) → early w t ≡ b → TimeFits (length w) (time_at w t tc)
    by_rule true e = rw (time_early w t tc e) (only _ _ (omega arith))
    by_rule false e =
        elim (dec_le 5 (length w - tc)) [
          | yes g ↦ by_fall e g (eqb (first_fall w tc) 0) refl
          | no g ↦ rw (time_late w t tc (vmin w) e refl (omega arith)) (only _ _ (vmin_le w))
        ]

-- where rule 4 gives the time, N1 exists and the divisor is above 0
pub record Divides (w : List ℕ) (peak n : ℕ) : Type 0 where
  pub from : 1 ≤ n
  pub below : n < peak
  pub divisor : 0 < amp_at w (n + 1) - amp_at w n

pub n1_exists : (w : List ℕ) (t s tc k : ℕ) → tc ≡ tc_from w t s → (tc ≡ 0 → ⊥) → early w t ≡ false → k ≡ first_fall w tc → (k ≡ 0 → ⊥)
    → Divides w (k - 1) (n1 w (vmid (amp_at w (k - 1)) (vmin w)) (k - 1))
n1_exists w t s tc k h g e f z =
    let c = crosses w (vmin w) (k - 1) _ _ _ (has_edge w t tc k e (tc_over w t s tc h g) f z) refl refl refl in
    record { from = c.from; below = c.below; divisor = omega (arith, c.low, c.high) }
