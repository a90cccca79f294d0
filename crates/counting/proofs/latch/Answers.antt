-- `counting::latch` meets its contract. Assumes nothing.
use Rattle.state.specs.State.{with_scalers}
use Rattle.counting.proofs.latch.Goals as goal

pub returns : goal.returns
unfolding with_scalers
returns c =
    let number = c.in_ok-state_check.ensures in
    record { refusal = number; state = rw (← number, c.latch-state.ensures) }
