-- What the inner functions ask and leave. Assumes nothing.
use Rattle.std.specs.Prelude.{ℕ, ◌+◌, ◌^◌, ◌<◌, ◌≤◌, ◌≡◌, List, length, get_or, set}
use Rattle.state.specs.declared.Phase.TheVariants.{Event}
use Rattle.state.specs.declared.State.{State}
use Rattle.places.specs.Places.{phase_at, event_at, trigger_time_at, marks_at, triggers_at, front_count}
use Rattle.numbers.specs.Numbers.{phase_number, head_stored}
use Rattle.refusals.specs.Refusal.{if_accepted}

-- an accepted call's state stored over the front of the numbers n
pub record Kept (n : List ℕ) (number : ℕ) (s : State) (r : ℕ) (n' : List ℕ) : Type 0 where
  pub answer : r ≡ number
  pub left : n' ≡ if_accepted number (head_stored n s) n

-- the event's numbers and the triggers counted stand among the numbers n
abbrev pub event_placed : List ℕ → ℕ → ℕ → ℕ → List ℕ
event_placed n event time triggers = set (set (set (set n phase_at (phase_number Event)) event_at event) trigger_time_at time) triggers_at triggers

-- the marks among the numbers n have room for the channel's bit
pub record MarkFits (n : List ℕ) (c : ℕ) : Type 0 where
  pub long : front_count ≤ length n
  pub small : get_or n marks_at 0 < 65536
  pub channel : c < 16

-- its bit is added
abbrev pub mark_placed : List ℕ → ℕ → List ℕ
mark_placed n c = set n marks_at (get_or n marks_at 0 + 2 ^ c)
