-- `block::end_short` meets its contract: a trailer is a word at least. Assumes nothing.
use Rattle.std.proofs.Common.{◌+◌, sym, arith, lt-ltb, length}
use Rattle.block.specs.Block.{end_items}
use Rattle.block.specs.BlockLaws.{end_length, fillers_le}
use Rattle.block.proofs.end_short.Goals as goal

pub returns-then-room-at : goal.returns-then-room-at
returns-then-room-at c =
    let a = c.args in
    sym (lt-ltb a.room (a.at + length (end_items a.settings a.at)) (omega (arith, c.if-room-at.true, end_length a.settings a.at)))

pub overflow_add-fillers : goal.overflow_add-fillers
overflow_add-fillers c =
    let a = c.args in
    omega (arith, c.fillers_to-fillers.ensures, fillers_le a.settings.multiple (a.at + 1))

pub returns : goal.returns
returns c =
    let a = c.args in
    rw (end_length a.settings a.at, ← c.fillers_to-fillers.ensures) c.room_short.ensures
