-- `state::ranges::between_ok` meets its contract. Assumes nothing.
use Rattle.state.specs.State.{phase_ok}
use Rattle.state.proofs.ranges.between_ok.Goals as goal

pub returns : goal.returns
unfolding phase_ok
returns c = rw (c.in_block_ok.ensures, c.no_marks.ensures)
