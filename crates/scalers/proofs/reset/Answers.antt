-- `scalers::reset` meets its contract.
use Rattle.scalers.specs.Scalers.{nothing_counted, reset_now}
use Rattle.scalers.proofs.reset.Goals as goal

pub returns : goal.returns
unfolding reset_now nothing_counted
returns c = rw c.none.ensures
