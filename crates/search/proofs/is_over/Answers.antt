-- `search::is_over` meets its contract. Assumes nothing.
use Rattle.std.proofs.Common.{rules}
use Rattle.search.specs.Search.{over}
use Rattle.search.proofs.is_over.Goals as goal

pub returns : goal.returns
unfolding over
returns c = search rules
