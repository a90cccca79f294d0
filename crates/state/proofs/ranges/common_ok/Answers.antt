-- `state::ranges::common_ok` meets its contract. Assumes nothing.
use Rattle.state.specs.State.{scalers_ok, common_ok}
use Rattle.state.proofs.ranges.common_ok.Goals as goal

pub returns : goal.returns
unfolding common_ok scalers_ok
returns c = rw c.in_range.ensures
