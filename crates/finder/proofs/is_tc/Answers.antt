-- `finder::is_tc` meets its contract: no sample is read that the window does not have. Assumes nothing.
use Rattle.std.proofs.Common.{arith}
use Rattle.std.proofs.lemmas.Bool.Decides.{nat_tests}
use Rattle.search.specs.Search.{over}
use Rattle.finder.specs.Wanted.{is_tc}
use Rattle.finder.proofs.is_tc.Goals as goal

pub returns-then-tc-window : goal.returns-then-tc-window
unfolding is_tc over
returns-then-tc-window c = grind (arith, nat_tests)

pub returns-else-tc-window : goal.returns-else-tc-window
unfolding is_tc over
returns-else-tc-window c = grind (arith, nat_tests)
