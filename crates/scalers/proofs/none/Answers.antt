-- `scalers::none` meets its contract.
use Rattle.std.proofs.Common.{refl}
use Rattle.scalers.specs.Scalers.{nothing_counted}
use Rattle.scalers.proofs.none.Goals as goal

pub returns : goal.returns
unfolding nothing_counted
returns c = refl
