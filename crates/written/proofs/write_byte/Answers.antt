-- `written::write_byte` meets its contract.
use Rattle.std.proofs.Common.{refl, arith}
use Rattle.written.specs.PageLaws.{put_here}
use Rattle.written.proofs.write_byte.Goals as goal

pub returns : goal.returns
returns c = (put_here _ _ _ (omega arith), refl)
