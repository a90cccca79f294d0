-- `stretches::walks::chunks` meets its contract.
use Rattle.std.proofs.Common.{arith}
use Rattle.stretches.specs.StretchesLaws.{row_less}
use Rattle.stretches.proofs.walks.chunks.Goals as goal

pub loop-i-preserved : goal.loop-i-preserved
loop-i-preserved g c = row_less (omega arith) (c.chunk.ensures.yes c.if-not-chunk.false)

pub returns : goal.returns
returns g c = row_less (omega arith) c.loop-i.invariant
