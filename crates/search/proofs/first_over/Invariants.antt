-- `search::first_over` meets its contract. The invariant: the search after `s + j` has the answer of the whole search. Assumes nothing.
use Rattle.std.proofs.Common.{◌+◌, ◌≡◌}
use Rattle.ground.specs.Search.{least}
use Rattle.search.specs.Search.{over}
use Rattle.search.proofs.first_over.Given as goal

abbrev pub invariant-loop-j : goal.invariant-loop-j
invariant-loop-j l = least (over l.window l.threshold) l.s (l.s + l.n) ≡ least (over l.window l.threshold) (l.s + l.j) (l.s + l.n)
