-- `block::put_block` meets its contract: what is not in range or has no room is not written. Assumes nothing.
use Rattle.std.proofs.Common.{◌+◌, ◌≤◌, ◌≡◌, sym, ◌∙◌, true, ltb-true, ltb-false, length}
use Rattle.ground.specs.WritingLaws.{not_asked}
use Rattle.settings.specs.Ranges.{settings_ok}
use Rattle.items.specs.ItemsLaws.{put_wrote, put_nothing}
use Rattle.block.specs.Block.{block_items}
use Rattle.block.specs.BlockLaws.{block_length}
use Rattle.block.proofs.put_block.Goals as goal
use Rattle.block.proofs.put_block.Goals.{Else-not-in_range, Else-room_short}

pub returns-then-not-in_range : goal.returns-then-not-in_range
returns-then-not-in_range c = not_asked (sym c.in_range.ensures ∙ c.if-not-in_range.true)

good : (c : Else-not-in_range) → settings_ok c.args.settings ≡ true
good c = sym c.in_range.ensures ∙ c.if-not-in_range.false

pub returns-then-room_short : goal.returns-then-room_short
returns-then-room_short c =
    let a = c.args in
    put_nothing (block_items a.settings a.number a.events)
    (rw (block_length a.settings a.number a.events, ← c.head_words.ensures) (ltb-true _ _ (sym c.room_short.ensures ∙ c.if-room_short.true)))

room : (c : Else-room_short) → let a = c.args in a.at + length (block_items a.settings a.number a.events) ≤ length a.words.now
room c =
    let a = c.args in
    rw (block_length a.settings a.number a.events, ← c.head_words.ensures) (ltb-false _ _ (sym c.room_short.ensures ∙ c.if-room_short.false))

pub put_head-requires : goal.put_head-requires
put_head-requires c = (good (goal.at.put_head-requires c).Else-not-in_range, room (goal.at.put_head-requires c).Else-room_short)

pub returns : goal.returns
returns c =
    let a = c.args in
    put_wrote (block_items a.settings a.number a.events) (good (goal.at.returns c).Else-not-in_range) (room (goal.at.returns c).Else-room_short) c.put_head.ensures
