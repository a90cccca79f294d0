-- `search::over_after` meets its contract. The invariant: the search after `k` has the answer of the search after `s`. Assumes nothing.
use Rattle.std.proofs.Common.{◌-◌}
use Rattle.search.specs.Search.{over}
use Rattle.search.specs.Chunk.{Passed}
use Rattle.search.proofs.over_after.Given as goal

abbrev pub invariant-loop-k : goal.invariant-loop-k
invariant-loop-k l = Passed (over l.window l.threshold) l.s l.n l.k

abbrev pub decreases-loop-k : goal.decreases-loop-k
decreases-loop-k l = l.n - l.k
