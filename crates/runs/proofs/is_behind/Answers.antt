-- `runs::is_behind` meets its contract.
use Rattle.std.proofs.Common.{sym, ◌∙◌}
use borrow.Author.Tests.{not-true}
use Rattle.runs.specs.RunsLaws.{behind_time}
use Rattle.runs.proofs.is_behind.Goals as goal

pub returns-in-Timed : goal.returns-in-Timed
returns-in-Timed c h = behind_time _ _ c.in-Timed.is (sym c.is_continuation-in-Timed.ensures ∙ not-true _ h)
