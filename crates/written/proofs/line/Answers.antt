-- `written::line` meets its contract: a line that has room is written.
use Rattle.std.proofs.Common.{sym, ap, ◌∙◌}
use Rattle.written.specs.Room.{on_to, written_of}
use Rattle.written.specs.RoomLaws.{room_fits}
use Rattle.written.proofs.line.Goals as goal

pub write_line-requires : goal.write_line-requires
write_line-requires c = room_fits _ _ _ _ (sym c.has_room.ensures ∙ c.if-has_room.true)

pub returns-then-has_room : goal.returns-then-has_room
unfolding written_of
returns-then-has_room c = rw (sym c.has_room.ensures ∙ c.if-has_room.true) (ap on_to c.write_line.ensures)

pub returns-else-has_room : goal.returns-else-has_room
unfolding written_of
returns-else-has_room c = rw (sym c.has_room.ensures ∙ c.if-has_room.false)
