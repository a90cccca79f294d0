-- `modes::limit_for` meets its contract.
use Rattle.modes.specs.Channel.{of_pulses}
use Rattle.modes.proofs.limit_for.Goals as goal

pub returns-then-parts : goal.returns-then-parts
unfolding of_pulses
returns-then-parts c = rw c.if-parts.true

pub returns-else-parts : goal.returns-else-parts
unfolding of_pulses
returns-else-parts c = rw c.if-parts.false
