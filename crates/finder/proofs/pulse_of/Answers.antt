-- `finder::pulse_of` meets its contract. Assumes nothing.
use Rattle.std.proofs.Common.{rules}
use Rattle.finder.specs.Wanted.{pulse_of}
use Rattle.finder.proofs.pulse_of.Goals as goal

pub returns-then-sums : goal.returns-then-sums
unfolding pulse_of
returns-then-sums c = search rules

pub returns-else-sums : goal.returns-else-sums
unfolding pulse_of
returns-else-sums c = search rules
