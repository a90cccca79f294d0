-- `state::idle_state` meets its contract. Assumes nothing.
use Rattle.std.proofs.Common.{refl}
use Rattle.state.specs.State.{idle}
use Rattle.state.proofs.idle_state.Goals as goal

pub returns : goal.returns
unfolding idle
returns c = refl
