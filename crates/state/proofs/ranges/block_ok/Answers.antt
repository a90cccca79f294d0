-- `state::ranges::block_ok` meets its contract. Assumes nothing.
use Rattle.std.proofs.Common.{refl}
use Rattle.state.specs.State.{block_ok}
use Rattle.state.proofs.ranges.block_ok.Goals as goal

pub returns : goal.returns
unfolding block_ok
returns c = refl
