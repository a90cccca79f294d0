-- `state::ranges::idle_ok` meets its contract. Assumes nothing.
use Rattle.state.specs.State.{phase_ok}
use Rattle.state.proofs.ranges.idle_ok.Goals as goal

pub returns : goal.returns
unfolding phase_ok
returns c = rw c.no_marks.ensures
