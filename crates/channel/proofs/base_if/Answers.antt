-- `channel::base_if` meets its contract.
use Rattle.channel.proofs.base_if.Goals as goal

pub returns-then-on : goal.returns-then-on
returns-then-on c = rw c.if-on.true c.base_of.ensures

pub returns-else-on : goal.returns-else-on
returns-else-on c = rw c.if-on.false
