-- `pulse::measure::integral_word` meets its contract: its record, built.
use Rattle.items.specs.Items.{word_of}
use Rattle.pulse.specs.Pulse.{integral_item}
use Rattle.pulse.specs.PulseLaws.{one_is}
use Rattle.pulse.proofs.measure.integral_word.Goals as goal

pub returns : goal.returns
unfolding word_of integral_item
returns c = rw (c.from.ensures, one_is, c.min.ensures) at c.build.ensures
