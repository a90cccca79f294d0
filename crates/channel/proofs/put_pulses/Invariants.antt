-- `channel::put_pulses` meets its contract: in a turn what is left begins with the pulse that is found.
use Rattle.std.proofs.Common.{◌-◌}
use Rattle.ground.specs.WritingLaws.{Left}
use Rattle.finder.specs.Find.{pulses_from}
use Rattle.items.specs.Items.{words_of}
use Rattle.modes.specs.Channel.{pulses_items, pulses_of}
use Rattle.channel.proofs.put_pulses.Given as goal

abbrev pub invariant-loop-i : goal.invariant-loop-i
invariant-loop-i l =
    Left l.initial.words l.at (words_of (pulses_items l.parts l.channel l.row 0 (pulses_of l.common l.threshold l.row))) l.words l.next (words_of (pulses_items l.parts l.channel l.row l.i (pulses_from l.row l.threshold l.common.nsb l.common.nsa (l.common.limit - l.i) l.s)))
