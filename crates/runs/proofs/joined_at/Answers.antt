-- `runs::joined_at` meets its contract.
use Rattle.std.proofs.Common.{◌+◌, ◌-◌, ◌*◌, refl, ◌∙◌, arith}
use Rattle.stretches.specs.WordsLaws.{part_first}
use Rattle.runs.proofs.joined_at.Goals as goal

pub returns : goal.returns
returns c = let a = c.args in c.word_at.ensures ∙ part_first a.bytes.now {size = 4 * a.k + 4 - 4 * a.k} a.k refl (omega arith) (omega arith)
