-- `stretches::walks::chunk` meets its contract. The invariant: what was tested so far says so of the words so far.
use Rattle.stretches.specs.Stretches.{Told}
use Rattle.stretches.proofs.walks.chunk.Given as goal

abbrev pub invariant-loop-i : goal.invariant-loop-i
invariant-loop-i g l = Told g.K.Kind.kind l.bytes l.i l.good
