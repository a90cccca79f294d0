-- `stretches::walks::ones` meets its contract.
use Rattle.std.proofs.Common.{arith}
use Rattle.stretches.specs.StretchesLaws.{row_less}
use Rattle.stretches.proofs.walks.ones.Goals as goal

pub returns-clause-row : goal.returns-clause-row
returns-clause-row g c = row_less (omega arith) c.loop-k.invariant
