-- The calls that count: what each answers and leaves. Document 02, "Scaler words". Assumes nothing.
use Rattle.std.specs.Prelude.{ℕ, ◌%◌, ◌≡◌, Bool, not, List, [], ◌∷◌, eqb, length}
use Rattle.ground.specs.Tests.{first_of}
use Rattle.refusals.specs.Refusal.{told, if_accepted}
use Rattle.samples.specs.Sample.{samples_ok}
use Rattle.scalers.specs.Scalers.{frame_samples, frames_of, count_frames, latched_now, reset_now}
use Rattle.state.specs.declared.State.{State}
use Rattle.state.specs.State.{state_ok, with_scalers}
use Rattle.writer.specs.Answer.{Answer}

-- ---- frames

-- 10, "Refusals: 3 for a frame", and 19 for samples that are no whole frames; in every phase
unfoldable pub count_table : State → List ℕ → List (ℕ × Bool)
count_table s samples = (10, not (state_ok s)) ∷ (3, not (samples_ok samples)) ∷ (19, not (eqb (length samples % frame_samples) 0)) ∷ []

unfoldable pub count_number : State → List ℕ → ℕ
count_number s samples = first_of (count_table s samples)

-- the state with frames counted by its thresholds
abbrev pub with_frames : State → List ℕ → State
with_frames s samples = with_scalers s (count_frames s.settings.thresholds s.scalers (frames_of samples))

-- "Feed frames of sixteen samples"; refused, none of them counts
pub record CountSays (s : State) (samples : List ℕ) (r : Answer) : Type 0 where
  pub refusal : told r.refusal ≡ count_number s samples
  pub state : r.state ≡ if_accepted (count_number s samples) (with_frames s samples) s

-- ---- latch

unfoldable pub latch_table : State → List (ℕ × Bool)
latch_table s = (10, not (state_ok s)) ∷ []

unfoldable pub latch_number : State → ℕ
latch_number s = first_of (latch_table s)

pub record LatchSays (s : State) (r : Answer) : Type 0 where
  pub refusal : told r.refusal ≡ latch_number s
  pub state : r.state ≡ if_accepted (latch_number s) (with_scalers s (latched_now s.scalers)) s

-- ---- reset

unfoldable pub reset_table : State → List (ℕ × Bool)
reset_table s = (10, not (state_ok s)) ∷ []

unfoldable pub reset_number : State → ℕ
reset_number s = first_of (reset_table s)

pub record ResetSays (s : State) (r : Answer) : Type 0 where
  pub refusal : told r.refusal ≡ reset_number s
  pub state : r.state ≡ if_accepted (reset_number s) (with_scalers s (reset_now s.scalers)) s

-- a proof that computes opens this file and what it leans on by one name
unfoldable pub all_open : Unit {0}
unfolding count_table count_number latch_table latch_number reset_table reset_number Rattle.ground.specs.Tests.all_open Rattle.samples.specs.Sample.all_open Rattle.scalers.specs.Scalers.all_open Rattle.state.specs.State.all_open
all_open = tt
