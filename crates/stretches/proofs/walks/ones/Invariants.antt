-- `stretches::walks::ones` meets its contract. The invariant: so are the words so far.
use Rattle.stretches.specs.Stretches.{Row}
use Rattle.stretches.proofs.walks.ones.Given as goal

abbrev pub invariant-loop-k : goal.invariant-loop-k
invariant-loop-k g l = Row g.K.Kind.kind l.bytes l.k
