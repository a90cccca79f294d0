-- `timing::time_from` meets its contract: no sample is read that the window does not have. Assumes nothing.
use Rattle.timing.specs.ByBase.{in_window}
use Rattle.timing.proofs.time_from.Goals as goal

pub returns-then-tc-window : goal.returns-then-tc-window
unfolding in_window
returns-then-tc-window c = rw c.if-tc-window.true c.time_in.ensures

pub returns-else-tc-window : goal.returns-else-tc-window
unfolding in_window
returns-else-tc-window c = rw c.if-tc-window.false c.tc_only.ensures
