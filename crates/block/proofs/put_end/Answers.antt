-- `block::put_end` meets its contract: what a trailer cannot count or has no room is not written. Assumes nothing.
use Rattle.std.proofs.Common.{◌+◌, ◌-◌, ◌^◌, ◌≤◌, sym, ◌∙◌, arith, ltb-true, ltb-false, lt-ltb, le-ltb, length}
use Rattle.ground.specs.WritingLaws.{not_asked}
use Rattle.items.specs.ItemsLaws.{put_wrote, put_nothing}
use Rattle.block.specs.Block.{end_items}
use Rattle.block.proofs.put_end.Goals as goal
use Rattle.block.proofs.put_end.Goals.{Else-end_short}

pub returns-then-at : goal.returns-then-at
returns-then-at c = not_asked (le-ltb c.args.at (2 ^ 22 - 1) c.if-at.true)

pub returns-then-end_short : goal.returns-then-end_short
returns-then-end_short c =
    let a = c.args in
    put_nothing (end_items a.settings a.at) (ltb-true _ _ (sym c.end_short.ensures ∙ c.if-end_short.true))

room : (c : Else-end_short) → let a = c.args in a.at + length (end_items a.settings a.at) ≤ length a.words.now
room c = ltb-false _ _ (sym c.end_short.ensures ∙ c.if-end_short.false)

pub put_last-requires : goal.put_last-requires
put_last-requires c = (omega (arith, c.if-at.false), room (goal.at.put_last-requires c).Else-end_short)

pub returns : goal.returns
returns c =
    let a = c.args in
    put_wrote (end_items a.settings a.at) (lt-ltb a.at (2 ^ 22 - 1) c.if-at.false) (room (goal.at.returns c).Else-end_short) c.put_last.ensures
