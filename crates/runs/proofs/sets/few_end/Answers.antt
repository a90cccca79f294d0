-- `runs::sets::few_end` meets its contract.
use Rattle.std.proofs.Common.{◌-◌, ◌*◌, refl, arith}
use Rattle.raw.specs.Plain.{plain}
use Rattle.stretches.specs.StretchesLaws.{Counted, counted}
use Rattle.runs.proofs.sets.few_end.Goals as goal
use Rattle.runs.proofs.sets.few_end.Goals.{After-few_plain}

-- what was counted
pairs : (c : After-few_plain) → let a = c.args in Counted plain a.bytes.now a.k (4 * a.end - 4 * a.k) c.few_plain.result
pairs c = let a = c.args in counted a.bytes.now a.k refl (omega arith) c.few_plain.ensures

pub returns : goal.returns
returns c = (omega (arith, (pairs c).within), (pairs c).all)

pub overflow_add-result : goal.overflow_add-result
overflow_add-result c = omega (arith, (pairs c).within)
