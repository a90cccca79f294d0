-- What the first four samples say, found once a window, and a time by it. The paper's definitions are those of Time; EdgeLaws shows that by the window's own
-- base they say the same. Assumes nothing.
use Rattle.std.specs.Prelude.{ℕ, ◌-◌, Bool, cond, ◌&&◌, Option, Some, None, List, length, eqb, leb, ltb}
use Rattle.search.specs.Search.{amp_at, early}
use Rattle.timing.specs.declared.Rule.TheVariants.{Early, Late, Flat}
use Rattle.timing.specs.declared.Time.{Time}
use Rattle.timing.specs.Time.{vmin, first_fall, vmid, n1, edge_time, tc_only}

-- what the first four samples say of every time: VMIN, or None where rule 1 holds
unfoldable pub base_of : List ℕ → ℕ → Option ℕ
base_of w t = cond (early w t) None (Some (vmin w))

-- rule 4 by any base: where it has no edge, as in 3
unfoldable pub edge_from : List ℕ → ℕ → ℕ → ℕ → Time
edge_from w low tc peak =
    cond (ltb low (amp_at w peak) && ltb 0 (n1 w (vmid (amp_at w peak) low) peak)) (edge_time w low peak) (tc_only tc low Flat)

-- the time by any base, in the rules' order
unfoldable pub time_from : List ℕ → Option ℕ → ℕ → Time
time_from w None tc = tc_only tc 0 Early
time_from w (Some low) tc =
    cond (ltb (length w - tc) 5) (tc_only tc low Late)
    (cond (eqb (first_fall w tc) 0) (tc_only tc low Flat) (edge_from w low tc (first_fall w tc - 1)))

-- sample k is one of the window
unfoldable pub in_window : List ℕ → ℕ → Bool
in_window w k = leb 1 k && leb k (length w)
