-- `search::quiet_to` meets its contract. The invariant: the search may go on behind the chunks that were looked at. Assumes nothing.
use Rattle.std.proofs.Common.{◌+◌, ◌*◌, length}
use Rattle.search.specs.Search.{over}
use Rattle.search.specs.Chunk.{Passed}
use Rattle.search.proofs.quiet_to.Given as goal

abbrev pub invariant-loop-i : goal.invariant-loop-i
invariant-loop-i g l = Passed (over l.window l.threshold) l.s (length l.window) (l.s + l.i * g.row.SIZE)
