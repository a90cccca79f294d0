-- `state::ranges::event_ok` meets its contract. Assumes nothing.
use Rattle.std.proofs.Common.{refl}
use Rattle.state.specs.State.{event_ok}
use Rattle.state.proofs.ranges.event_ok.Goals as goal

pub returns : goal.returns
unfolding event_ok
returns c = refl
