-- `state::ranges::during_ok` meets its contract. Assumes nothing.
use Rattle.state.specs.State.{phase_ok}
use Rattle.state.proofs.ranges.during_ok.Goals as goal

pub returns : goal.returns
unfolding phase_ok
returns c = rw (c.in_block_ok.ensures, c.event_ok.ensures)
