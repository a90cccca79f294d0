-- `event::put_channels` meets its contract: in a turn what is left begins with what the next channel writes.
use Rattle.std.proofs.Common.{arith}
use Rattle.ground.specs.WritingLaws.{left_all}
use Rattle.rows.specs.RowsLaws.{row_short, part_row}
use Rattle.event.proofs.EventLaws.{channel_room, channel_less, channel_none}
use Rattle.event.proofs.put_channels.Goals as goal

pub loop-channel-init : goal.loop-channel-init
loop-channel-init c = left_all _ _ _

pub put_posted-next-requires : goal.put_posted-next-requires
put_posted-next-requires c =
    let i = c.loop-channel.channel in
    record {
      settings_value = (c.requires.lent.settings, row_short _ _ _ c.requires.lent i);
      row_in_bounds = rw (part_row c.args.settings.nw i c.args.store.now) (channel_room _ _ _ _ _ c.requires.posted_in_bounds c.loop-channel.words c.loop-channel.next i (omega arith) c.loop-channel.invariant);
    }

pub loop-channel-preserved : goal.loop-channel-preserved
loop-channel-preserved c =
    let i = c.loop-channel.channel in
    channel_less _ _ _ _ _ c.requires.posted_in_bounds c.loop-channel.words c.loop-channel.next i _ _
    (rw (part_row c.args.settings.nw i c.args.store.now) at c.put_posted-next.ensures) (omega arith) c.loop-channel.invariant

pub returns : goal.returns
returns c = channel_none _ _ _ _ _ c.requires.posted_in_bounds c.loop-channel.words c.loop-channel.next c.loop-channel.channel (omega arith) c.loop-channel.invariant
