-- `state::ranges::state_ok` meets its contract. Assumes nothing.
use Rattle.state.specs.State.{state_ok}
use Rattle.state.proofs.ranges.state_ok.Goals as goal

pub returns : goal.returns
unfolding state_ok
returns c = rw (c.phase_ok.ensures, c.common_ok.ensures)
