-- `scalers::trigger` meets its contract.
use Rattle.std.proofs.Common.{refl}
use Rattle.scalers.specs.Scalers.{wrapped, triggered}
use Rattle.scalers.proofs.trigger.Goals as goal

pub returns : goal.returns
unfolding triggered wrapped
returns c = refl
