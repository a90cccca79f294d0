-- `state::no_state` meets its contract. Assumes nothing.
use Rattle.std.proofs.Common.{ap, ◌∙◌}
use Rattle.state.specs.State.{idle, blank}
use Rattle.state.proofs.no_state.Goals as goal

pub returns : goal.returns
unfolding blank
returns c = c.idle_state.ensures ∙ ap (idle _) c.none.ensures
