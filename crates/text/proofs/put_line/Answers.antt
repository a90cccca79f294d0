-- `text::put_line` meets its contract: written where it fits, or where it may not, in parts.
use Rattle.written.specs.RoomLaws.{written_at, written_none}
use Rattle.text.proofs.put_line.Goals as goal

pub returns-in-Some : goal.returns-in-Some
returns-in-Some c = written_at _ _ _ _ _ c.line.ensures c.in-Some.is

pub returns-in-None : goal.returns-in-None
returns-in-None c = rw (written_none _ _ _ _ _ c.line.ensures c.in-None.is) at c.put_parts.ensures
