-- `timing::n1_of` meets its contract. The invariant: the search below `k` has the answer of the whole search. Assumes nothing.
use Rattle.std.proofs.Common.{◌≡◌}
use Rattle.ground.specs.Search.{greatest}
use Rattle.timing.specs.Time.{at_most, n1}
use Rattle.timing.proofs.n1_of.Given as goal

abbrev pub invariant-loop-k : goal.invariant-loop-k
invariant-loop-k l = n1 l.window l.vmid l.peak ≡ greatest (at_most l.window l.vmid) l.k
