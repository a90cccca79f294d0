-- `finder::no_pulses` meets its contract. Assumes nothing.
use Rattle.finder.specs.Find.{packed}
use Rattle.finder.proofs.no_pulses.Goals as goal

pub returns : goal.returns
unfolding packed
returns c = rw c.no_pulse-none.ensures
