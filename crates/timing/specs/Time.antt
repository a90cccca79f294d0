-- The high-resolution time of a pulse: document 01, "Finding pulses". Assumes nothing.
use Rattle.std.specs.Prelude.{ℕ, ◌+◌, ◌-◌, ◌*◌, ◌/◌, Bool, cond, List, length, ltb, leb, eqb}
use Rattle.ground.specs.Search.{least, greatest}
use Rattle.search.specs.Search.{amp_at, early}
use Rattle.timing.specs.declared.Rule.{Rule}
use Rattle.timing.specs.declared.Rule.TheVariants.{Early, Late, Flat, Edge}
use Rattle.timing.specs.declared.Time.{Time}
use Rattle.timing.specs.Integral.{integral}

-- "VMIN = floor(sum of the first four V / 4)."
unfoldable pub vmin : List ℕ → ℕ
vmin w = integral w 1 4 / 4

-- "with V(k) < V(k-1)"
unfoldable pub falls : List ℕ → ℕ → Bool
falls w k = ltb (amp_at w k) (amp_at w (k - 1))

-- "Let k be the least number, TC < k <= NW, with V(k) < V(k-1)."
unfoldable pub first_fall : List ℕ → ℕ → ℕ
first_fall w tc = least (falls w) tc (length w)

-- "VMID = floor((VPEAK + VMIN) / 2)."
unfoldable pub vmid : ℕ → ℕ → ℕ
vmid vpeak low = (vpeak + low) / 2

-- "with V(N1) <= VMID"
unfoldable pub at_most : List ℕ → ℕ → ℕ → Bool
at_most w mid k = leb (amp_at w k) mid

-- "N1 is the greatest number below P with V(N1) <= VMID."
unfoldable pub n1 : List ℕ → ℕ → ℕ → ℕ
n1 w mid peak = greatest (at_most w mid) peak

-- "fine is floor(64 x (VMID - V(N1)) / (V(N1+1) - V(N1)))"
unfoldable pub fine_of : ℕ → ℕ → ℕ → ℕ
fine_of mid from to = 64 * (mid - from) / (to - from)

-- "time is TC, fine 0, .. VPEAK 0"
abbrev pub tc_only : ℕ → ℕ → Rule → Time
tc_only tc low rule = record { coarse = tc; fine = 0; vmin = low; vpeak = 0; rule = rule }

-- "Else P = k-1, VPEAK = V(P). .. Coarse is N1"
unfoldable pub edge_time : List ℕ → ℕ → ℕ → Time
edge_time w low peak =
    let mid : ℕ = vmid (amp_at w peak) low in
    let n : ℕ = n1 w mid peak in
    record { coarse = n; fine = fine_of mid (amp_at w n) (amp_at w (n + 1)); vmin = low; vpeak = amp_at w peak; rule = Edge }

-- "None: as in 2. Else P = k-1"
unfoldable pub after_fall : List ℕ → ℕ → ℕ → Time
after_fall w tc k = cond (eqb k 0) (tc_only tc (vmin w) Flat) (edge_time w (vmin w) (k - 1))

-- "High-resolution time, checked in this order: 1. .. time is TC, fine 0, VMIN 0, VPEAK 0. 2. .. If NW - TC < 5: time TC, fine 0, VPEAK 0."
unfoldable pub time_at : List ℕ → ℕ → ℕ → Time
time_at w t tc =
    cond (early w t) (tc_only tc 0 Early)
    (cond (ltb (length w - tc) 5) (tc_only tc (vmin w) Late)
    (after_fall w tc (first_fall w tc)))

-- the paper's number of a rule
abbrev pub rule_number : Rule → ℕ
rule_number Early = 1
rule_number Late = 2
rule_number Flat = 3
rule_number Edge = 4

-- a proof that computes opens this file and what it leans on by one name
unfoldable pub all_open : Unit {0}
unfolding vmin falls first_fall vmid at_most n1 fine_of edge_time after_fall time_at Rattle.timing.specs.Integral.all_open Rattle.ground.specs.Search.all_open Rattle.search.specs.Search.all_open
all_open = tt
