-- `text::put_byte` meets its contract: a byte that has room, one past the end, one at the farthest place.
use Rattle.std.proofs.Common.{arith}
use Rattle.written.specs.PageLaws.{put_here, put_past, put_stay}
use Rattle.text.proofs.put_byte.Goals as goal

pub returns-then-at-text : goal.returns-then-at-text
returns-then-at-text c = put_here _ _ _ (omega arith)

pub returns-then-at-lt-FARTHEST : goal.returns-then-at-lt-FARTHEST
returns-then-at-lt-FARTHEST c = put_past _ _ _ (omega arith) (omega arith)

pub returns-else-at-lt-FARTHEST : goal.returns-else-at-lt-FARTHEST
returns-else-at-lt-FARTHEST c = put_stay _ _ _ (omega arith) (omega arith)
