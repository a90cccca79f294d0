-- `stretches::walks::chunks` meets its contract. The invariant: so are the words so far.
use Rattle.std.proofs.Common.{◌+◌, ◌*◌}
use Rattle.stretches.specs.Stretches.{Row}
use Rattle.stretches.proofs.walks.chunks.Given as goal

abbrev pub invariant-loop-i : goal.invariant-loop-i
invariant-loop-i g l = Row g.K.Kind.kind l.bytes (l.from + 8 * l.i)
