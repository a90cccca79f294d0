-- `event::put_posted` meets its contract: the channel's words, or nothing.
use Rattle.std.proofs.Common.{length}
use Rattle.ground.specs.WritingLaws.{written_nil}
use Rattle.settings.specs.RangesLaws.{settings_in_range}
use Rattle.finder.specs.FindLaws.{range_searches}
use Rattle.items.specs.ItemsLaws.{put_written}
use Rattle.modes.specs.Channel.{common_of, channel_items}
use Rattle.event.proofs.put_posted.Goals as goal

pub returns-then-posted : goal.returns-then-posted
returns-then-posted c =
    let a = c.args in
    let on = c.if-posted.true in
    let asked = range_searches a.settings (length a.row.now) (settings_in_range _ c.requires.settings_value.0) c.requires.settings_value.1 in
    rw on
    (put_written (channel_items (common_of a.settings) a.threshold a.channel a.row.now) asked (rw on at c.requires.row_in_bounds)
    (rw c.from.ensures at c.put_channel.ensures))

pub returns-else-posted : goal.returns-else-posted
returns-else-posted c = rw c.if-posted.false (written_nil _ _)
