-- The calls that count as C makes them: a state is numbers that the host lends. Assumes nothing.
use Rattle.std.specs.Prelude.{ℕ, ◌≡◌, List}
use Rattle.refusals.specs.Refusal.{if_accepted}
use Rattle.scalers.specs.declared.Scalers.{Scalers}
use Rattle.scalers.specs.Scalers.{latched_now, reset_now}
use Rattle.state.specs.State.{with_scalers}
use Rattle.numbers.specs.Numbers.{state_from, numbers_of, scalers_stored}
use Rattle.numbers.specs.On.{on_state}
use Rattle.counting.specs.Counting.{count_number, with_frames, latch_number, reset_number}

-- ---- `r` is the number that C gets, `n` the state's numbers, `n'` those after the call

pub record CountFace (n samples : List ℕ) (r : ℕ) (n' : List ℕ) : Type 0 where
  pub number : r ≡ on_state n (count_number (state_from n) samples)
  pub numbers : n' ≡ if_accepted r (numbers_of (with_frames (state_from n) samples)) n

pub record LatchFace (n : List ℕ) (r : ℕ) (n' : List ℕ) : Type 0 where
  pub number : r ≡ on_state n (latch_number (state_from n))
  pub numbers : n' ≡ if_accepted r (numbers_of (with_scalers (state_from n) (latched_now (state_from n).scalers))) n

pub record ResetFace (n : List ℕ) (r : ℕ) (n' : List ℕ) : Type 0 where
  pub number : r ≡ on_state n (reset_number (state_from n))
  pub numbers : n' ≡ if_accepted r (numbers_of (with_scalers (state_from n) (reset_now (state_from n).scalers))) n

-- ---- what the inner function leaves: an accepted call's counts stored among the numbers n

pub record Kept (n : List ℕ) (number : ℕ) (c : Scalers) (r : ℕ) (n' : List ℕ) : Type 0 where
  pub answer : r ≡ number
  pub left : n' ≡ if_accepted number (scalers_stored n c) n
