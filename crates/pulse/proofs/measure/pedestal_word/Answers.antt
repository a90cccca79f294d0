-- `pulse::measure::pedestal_word` meets its contract: its record, built.
use Rattle.items.specs.Items.{word_of}
use Rattle.pulse.specs.Pulse.{pedestal_item}
use Rattle.pulse.proofs.measure.pedestal_word.Goals as goal

pub returns : goal.returns
unfolding word_of pedestal_item
returns c = rw c.min.ensures at c.build.ensures
