-- `channel::tc_after` meets its contract. Assumes nothing.
use Rattle.channel.proofs.tc_after.Goals as goal

pub returns-then-s-eq0 : goal.returns-then-s-eq0
returns-then-s-eq0 c = rw c.if-s-eq0.true c.requires
