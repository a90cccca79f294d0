-- `search::is_early` meets its contract. Assumes nothing.
use Rattle.std.proofs.Common.{lt-ltb, le-ltb}
use Rattle.search.specs.Search.{first_over, over_in, early}
use Rattle.search.proofs.is_early.Goals as goal

pub returns-then-window-lt4 : goal.returns-then-window-lt4
unfolding early
returns-then-window-lt4 c = rw (lt-ltb _ _ c.if-window-lt4.true)

pub returns-else-window-lt4 : goal.returns-else-window-lt4
unfolding early over_in first_over
returns-else-window-lt4 c = rw (le-ltb _ _ c.if-window-lt4.false, c.first_over.ensures)
