-- `numbers::store::marks_number` meets its contract. The invariant: the number is that of the marks behind those left. Assumes nothing.
use Rattle.std.proofs.Common.{◌∙◌, arith, rules}
use Rattle.numbers.specs.NumbersLaws.{bit_of, bit_le, behind_none, behind_more, behind_small, behind_all}
use Rattle.numbers.proofs.store.marks_number.Goals as goal

pub loop-mark-init : goal.loop-mark-init
loop-mark-init c = behind_none _ _ (search rules)

pub overflow_mul-number : goal.overflow_mul-number
overflow_mul-number c = omega (arith, behind_small c.loop-mark.invariant c.requires)

pub overflow_add-number : goal.overflow_add-number
overflow_add-number c = omega (arith, behind_small c.loop-mark.invariant c.requires, c.from.ensures, bit_of c.in-Some.mark.now, bit_le c.in-Some.mark.now)

pub loop-mark-preserved : goal.loop-mark-preserved
loop-mark-preserved c = rw (c.from.ensures ∙ bit_of c.in-Some.mark.now) (behind_more c.loop-mark.invariant _ _ c.in-Some.ensures.steps)

pub returns : goal.returns
returns c = behind_all c.loop-mark.invariant c.in-None.ensures.steps.0
