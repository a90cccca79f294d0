-- `finder::no_pulse` meets its contract. Assumes nothing.
use Rattle.finder.specs.Find.{no_pulse}
use Rattle.finder.proofs.no_pulse.Goals as goal

pub returns : goal.returns
unfolding no_pulse
returns c = rw c.tc_only-time.ensures
