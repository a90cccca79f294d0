-- `writer::open_event` meets its contract. Assumes nothing.
use Rattle.state.specs.State.{with_event}
use Rattle.writer.proofs.open_event.Goals as goal

pub returns : goal.returns
unfolding with_event
returns c =
    let number = c.in_ok-open_event_check.ensures in
    record { refusal = number; state = rw (← number, c.trigger-state.ensures) }
