-- `event::put_channels` meets its contract: in a turn what is left begins with what the next channel writes.
use Rattle.std.proofs.Common.{drop}
use Rattle.ground.specs.WritingLaws.{Left}
use Rattle.items.specs.Items.{words_of}
use Rattle.event.specs.Event.{channels_items}
use Rattle.event.proofs.put_channels.Given as goal

abbrev pub invariant-loop-channel : goal.invariant-loop-channel
invariant-loop-channel l =
    Left l.initial.words l.at (words_of (channels_items l.settings l.store 0 l.posted)) l.words l.next (words_of (channels_items l.settings l.store l.channel (drop l.channel l.posted)))
