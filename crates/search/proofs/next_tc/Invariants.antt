-- `search::next_tc` meets its contract. The invariant: the search after `k` has the answer of the whole search. Assumes nothing.
use Rattle.std.proofs.Common.{◌≡◌, length}
use Rattle.ground.specs.Search.{least}
use Rattle.search.specs.Search.{starts, next_tc}
use Rattle.search.proofs.next_tc.Given as goal

abbrev pub invariant-loop-k : goal.invariant-loop-k
invariant-loop-k l = next_tc l.window l.threshold l.s ≡ least (starts l.window l.threshold) l.k (length l.window)
