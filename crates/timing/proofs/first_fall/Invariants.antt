-- `timing::first_fall` meets its contract. The invariant: the search after `k` has the answer of the whole search, and sample `k` was read. Assumes nothing.
use Rattle.std.proofs.Common.{◌≡◌, length}
use Rattle.ground.specs.Search.{least}
use Rattle.search.specs.Search.{amp_at}
use Rattle.timing.specs.Time.{falls, first_fall}
use Rattle.timing.proofs.first_fall.Given as goal

abbrev pub invariant-loop-k : goal.invariant-loop-k
invariant-loop-k l = (l.before ≡ amp_at l.window l.k) × (first_fall l.window l.tc ≡ least (falls l.window) l.k (length l.window))
