-- `counting::state_check` meets its contract. Assumes nothing.
use Rattle.std.proofs.Common.{sym, ◌∙◌}
use Rattle.ground.specs.Tests.{first_of}
use Rattle.counting.specs.Counting.{latch_table, latch_number}
use Rattle.counting.proofs.state_check.Goals as goal

pub returns-then-state_ok : goal.returns-then-state_ok
unfolding latch_number latch_table first_of
returns-then-state_ok c = rw (sym c.state_ok.ensures ∙ c.if-state_ok.true)

pub returns : goal.returns
unfolding latch_number latch_table first_of
returns c = rw (sym c.state_ok.ensures ∙ c.if-state_ok.false)
