-- `written::write_two` meets its contract: its digits one after another.
use Rattle.std.proofs.Common.{arith}
use Rattle.written.specs.PageLaws.{put_then}
use Rattle.written.proofs.write_two.Goals as goal

pub returns : goal.returns
returns c = (put_then _ _ _ _ _ c.write_digit-k.ensures.0 c.write_digit.ensures.0, omega arith)
