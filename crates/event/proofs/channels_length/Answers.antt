-- `event::channels_length` meets its contract: what is counted and what is left are the whole.
use Rattle.std.proofs.Common.{arith, zero-add}
use Rattle.limits.proofs.LimitsLaws.{most_channel_lem}
use Rattle.rows.specs.RowsLaws.{row_short, part_row}
use Rattle.event.proofs.EventLaws.{count_turn, count_end, channels_most}
use Rattle.event.proofs.channels_length.Goals as goal

pub loop-channel-init : goal.loop-channel-init
loop-channel-init c = zero-add _

pub posted_length-n-requires : goal.posted_length-n-requires
posted_length-n-requires c = (c.requires.settings, row_short _ _ _ c.requires c.loop-channel.channel)

pub overflow_add-n : goal.overflow_add-n
overflow_add-n c =
    let i = c.loop-channel.channel in
    omega (
      arith,
      most_channel_lem,
      channels_most c.args.settings c.args.posted.now c.args.store.now c.requires.settings c.requires.marks,
      count_turn c.args.settings c.args.store.now c.args.posted.now c.requires.settings c.loop-channel.n i c.loop-channel.invariant _
          (rw (part_row c.args.settings.nw i c.args.store.now) at c.posted_length-n.ensures) (omega arith),
    )

pub loop-channel-preserved : goal.loop-channel-preserved
loop-channel-preserved c =
    let i = c.loop-channel.channel in
    count_turn c.args.settings c.args.store.now c.args.posted.now c.requires.settings c.loop-channel.n i c.loop-channel.invariant _
    (rw (part_row c.args.settings.nw i c.args.store.now) at c.posted_length-n.ensures) (omega arith)

pub returns : goal.returns
returns c =
    count_end c.args.settings c.args.store.now c.args.posted.now c.requires.settings c.loop-channel.n c.loop-channel.channel c.loop-channel.invariant (omega arith)
