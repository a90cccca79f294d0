-- `stretches::walks::every` meets its contract. The invariant: so are the words so far.
use Rattle.std.proofs.Common.{◌-◌}
use Rattle.stretches.specs.Stretches.{Row}
use Rattle.stretches.proofs.walks.every.Given as goal

abbrev pub invariant-loop-k : goal.invariant-loop-k
invariant-loop-k g l = Row g.K.Kind.kind l.bytes l.k

abbrev pub decreases-loop-k : goal.decreases-loop-k
decreases-loop-k g l = l.n - l.k
