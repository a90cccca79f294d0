-- `event::channels_length` meets its contract: what is counted and what is left are the whole.
use Rattle.std.proofs.Common.{◌+◌, ◌≡◌, length, drop}
use Rattle.event.specs.Event.{channels_items}
use Rattle.event.proofs.channels_length.Given as goal

abbrev pub invariant-loop-channel : goal.invariant-loop-channel
invariant-loop-channel l =
    l.n + length (channels_items l.settings l.store l.channel (drop l.channel l.posted)) ≡ length (channels_items l.settings l.store 0 l.posted)
