-- Laws of the time's definitions, as the code meets them: a sample more, a rule of the time. Assumes nothing.
use Rattle.std.specs.Prelude.{ℕ, ◌+◌, ◌-◌, ◌*◌, ◌/◌, ◌≤◌, ◌<◌, ◌≡◌, refl, true, false, Some, None, List, ltb, length}
use Rattle.std.proofs.Common.{◌∙◌, arith}
use borrow.Author.Tests.{lt-ltb, le-ltb, le-leb, lt-leb, ne_eqb}
use Rattle.search.specs.Search.{amp_at, early}
use Rattle.timing.specs.declared.Rule.TheVariants.{Early, Late, Flat, Edge}
use Rattle.timing.specs.declared.Time.{Time}
use Rattle.timing.specs.Time.{vmin, falls, first_fall, vmid, at_most, n1, fine_of, tc_only, edge_time, after_fall, time_at}
use Rattle.timing.specs.ByBase.{base_of, edge_from, time_from, in_window}

-- ---- a sample more

pub falls_next : (w : List ℕ) (k : ℕ) → falls w (k + 1) ≡ ltb (amp_at w (k + 1)) (amp_at w k)
unfolding falls
falls_next w k =
    let e : k + 1 - 1 ≡ k = omega arith in
    rw e

pub falls_yes : (w : List ℕ) (k : ℕ) → amp_at w (k + 1) < amp_at w k → falls w (k + 1) ≡ true
falls_yes w k h = falls_next w k ∙ lt-ltb _ _ h

pub falls_no : (w : List ℕ) (k : ℕ) → amp_at w k ≤ amp_at w (k + 1) → falls w (k + 1) ≡ false
falls_no w k h = falls_next w k ∙ le-ltb _ _ h

pub at_most_yes : (w : List ℕ) (mid k : ℕ) → amp_at w k ≤ mid → at_most w mid k ≡ true
unfolding at_most
at_most_yes w mid k h = le-leb (amp_at w k) mid h

pub at_most_no : (w : List ℕ) (mid k : ℕ) → mid < amp_at w k → at_most w mid k ≡ false
unfolding at_most
at_most_no w mid k h = lt-leb (amp_at w k) mid h

-- ---- the time, rule by rule

pub time_early : (w : List ℕ) (t tc : ℕ) → early w t ≡ true → time_at w t tc ≡ tc_only tc 0 Early
unfolding time_at
time_early w t tc h = rw h

module _ (w : List ℕ) (t tc low : ℕ) (calm : early w t ≡ false) (hl : low ≡ vmin w) where
  pub time_late : length w - tc < 5 → time_at w t tc ≡ tc_only tc low Late
  unfolding time_at
  time_late l = rw (calm, lt-ltb (length w - tc) 5 l, hl)

  module _ (k : ℕ) (room : 5 ≤ length w - tc) (hk : k ≡ first_fall w tc) where
    pub time_flat : k ≡ 0 → time_at w t tc ≡ tc_only tc low Flat
    unfolding time_at after_fall
    time_flat z = rw (calm, le-ltb (length w - tc) 5 room, ← hk, z, hl)

    pub time_edge : (k ≡ 0 → ⊥) → time_at w t tc ≡ edge_time w low (k - 1)
    unfolding time_at after_fall
    time_edge z = rw (calm, le-ltb (length w - tc) 5 room, ← hk, ne_eqb k 0 z, hl)

-- the window's own base
pub base_early : (w : List ℕ) (t : ℕ) → early w t ≡ true → base_of w t ≡ None
unfolding base_of
base_early w t h = rw h

pub base_low : (w : List ℕ) (t : ℕ) → early w t ≡ false → base_of w t ≡ Some (vmin w)
unfolding base_of
base_low w t h = rw h

-- the same by any base
pub from_early : (w : List ℕ) (tc : ℕ) → time_from w None tc ≡ tc_only tc 0 Early
unfolding time_from
from_early w tc = refl

module _ (w : List ℕ) (low tc : ℕ) where
  pub from_late : length w - tc < 5 → time_from w (Some low) tc ≡ tc_only tc low Late
  unfolding time_from
  from_late l = rw (lt-ltb (length w - tc) 5 l)

  module _ (k : ℕ) (room : 5 ≤ length w - tc) (hk : k ≡ first_fall w tc) where
    pub from_flat : k ≡ 0 → time_from w (Some low) tc ≡ tc_only tc low Flat
    unfolding time_from
    from_flat z = rw (le-ltb (length w - tc) 5 room, ← hk, z)

    pub from_edge : (k ≡ 0 → ⊥) → time_from w (Some low) tc ≡ edge_from w low tc (k - 1)
    unfolding time_from
    from_edge z = rw (le-ltb (length w - tc) 5 room, ← hk, ne_eqb k 0 z)

-- the time from the numbers that the code computes one by one
pub edge_is : (w : List ℕ) (low peak v mid n a b : ℕ) → v ≡ amp_at w peak → mid ≡ (v + low) / 2 → n ≡ n1 w mid peak
    → a ≡ amp_at w n → b ≡ amp_at w (n + 1)
    → ◌≡◌ {A = Time} (record { coarse = n; fine = 64 * (mid - a) / (b - a); vmin = low; vpeak = v; rule = Edge }) (edge_time w low peak)
unfolding edge_time vmid fine_of
edge_is w low peak v mid n a b hv hm hn ha hb = rw (hb, ha, hn, hm, hv)

-- the edge where there is none, and where there is one
module _ (w : List ℕ) (low tc peak v mid n : ℕ) (hv : v ≡ amp_at w peak) where
  pub edge_low : v ≤ low → edge_from w low tc peak ≡ tc_only tc low Flat
  unfolding edge_from
  edge_low h = rw (← hv, le-ltb low v h)

  module _ (hm : mid ≡ (v + low) / 2) (hn : n ≡ n1 w mid peak) where
    pub edge_none : low < v → n ≡ 0 → edge_from w low tc peak ≡ tc_only tc low Flat
    unfolding edge_from vmid
    edge_none h z = rw (← hv, ← hm, ← hn, lt-ltb low v h, z)

    pub edge_some : low < v → 1 ≤ n → edge_from w low tc peak ≡ edge_time w low peak
    unfolding edge_from vmid
    edge_some h g = rw (← hv, ← hm, ← hn, lt-ltb low v h, lt-ltb 0 n g)

-- ---- a sample that the window has

pub in_window_lem : (w : List ℕ) (k : ℕ) → 1 ≤ k → k ≤ length w → in_window w k ≡ true
unfolding in_window
in_window_lem w k h g = rw (le-leb 1 k h, le-leb k (length w) g)
