-- What a call on a state answers and what it leaves, in one: whether it is refused, the state, the block's length. Assumes nothing.
use Rattle.std.specs.Prelude.{ℕ}
use Rattle.std.specs.declared.result.Result.{Result}
use Rattle.std.specs.declared.result.Result.TheVariants.{Ok, Err}
use Rattle.refusals.specs.declared.Refusal.{Refusal}
use Rattle.refusals.specs.Refusal.{Outcome}
use Rattle.state.specs.declared.State.{State}
use Rattle.state.specs.State.{blank}

pub record Answer : Type 0 where
  pub refusal : Outcome
  pub state : State

abbrev pub answer : Outcome → State → Answer
answer outcome state = record { refusal = outcome; state = state }

-- a call that makes a state; where it is refused there is none
abbrev pub made : Result State Refusal → Answer
made (Ok state) = answer (Ok tt) state
made (Err refusal) = answer (Err refusal) blank

-- the same of a finish with the block's length in words, 0 where it is refused
pub record Finished : Type 0 where
  pub refusal : Outcome
  pub state : State
  pub length : ℕ

abbrev pub finished : Result ℕ Refusal → State → Finished
finished (Ok length) state = record { refusal = Ok tt; state = state; length = length }
finished (Err refusal) state = record { refusal = Err refusal; state = state; length = 0 }
