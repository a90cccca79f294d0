-- `search::any_over` meets its contract. Assumes nothing.
use Rattle.search.specs.Search.{first_over, over_in}
use Rattle.search.proofs.any_over.Goals as goal

pub returns : goal.returns
unfolding first_over over_in
returns c = rw c.over_after.ensures
