-- `numbers::store::marks_number` meets its contract. The invariant: the number is that of the marks behind those left. Assumes nothing.
use Rattle.numbers.specs.NumbersLaws.{Behind}
use Rattle.numbers.proofs.store.marks_number.Given as goal

abbrev pub invariant-loop-mark : goal.invariant-loop-mark
invariant-loop-mark l = Behind l.marks l.mark-iterator.iter.rest.now l.number
