-- `runs::sets::single_at` meets its contract.
use Rattle.std.proofs.Common.{◌+◌, ◌-◌, ◌*◌, refl, ap, ◌∙◌, arith}
use Rattle.stretches.specs.Stretches.{single}
use Rattle.stretches.specs.WordsLaws.{part_first}
use Rattle.runs.proofs.sets.single_at.Goals as goal

pub returns : goal.returns
returns c = let a = c.args in c.is_single.ensures ∙ ap single (part_first a.bytes.now {size = 4 * a.k + 4 - 4 * a.k} a.k refl (omega arith) (omega arith))
