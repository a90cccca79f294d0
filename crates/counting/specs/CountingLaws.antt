-- What an accepted call has, that it keeps the state in its ranges, and that two results of a call are equal. Assumes nothing.
use Rattle.std.specs.Prelude.{ℕ, ◌+◌, ◌%◌, ◌≡◌, refl, true, List, [], ◌∷◌, length}
use Rattle.std.proofs.Common.{arith, eqb-true, lt-ltb}
use Rattle.std.proofs.lemmas.Bool.{not-false}
use Rattle.ground.specs.TestsLaws.{none}
use Rattle.samples.specs.Sample.{samples_ok}
use Rattle.scalers.specs.declared.Scalers.{Scalers}
use Rattle.scalers.specs.Scalers.{group_frames, frame_samples, count_frame, count_frames, frames_of, latched_now, reset_now}
use Rattle.state.specs.declared.State.{State}
use Rattle.state.specs.State.{scalers_ok, state_ok, with_scalers}
use Rattle.state.specs.StateLaws.{state_scalers, scalers_kept}
use Rattle.writer.specs.Answer.{Answer}
use Rattle.writer.specs.UniqueLaws.{one_answer}
use Rattle.counting.specs.Counting.{count_table, count_number, with_frames, CountSays, latch_table, latch_number, LatchSays, reset_table, reset_number, ResetSays}

-- ---- accepted

pub record CountAccepted (s : State) (samples : List ℕ) : Type 0 where
  pub state : state_ok s ≡ true
  pub samples_ok_lem : samples_ok samples ≡ true
  pub whole : length samples % frame_samples ≡ 0

pub count_accepted : (s : State) (samples : List ℕ) → count_number s samples ≡ 0 → CountAccepted s samples
unfolding count_number count_table
count_accepted s samples e =
    let o = none (count_table s samples) refl e in
    record { state = not-false _ o.0; samples_ok_lem = not-false _ o.1.0; whole = eqb-true _ _ (not-false _ o.1.1.0) }

pub latch_accepted : (s : State) → latch_number s ≡ 0 → state_ok s ≡ true
unfolding latch_number latch_table
latch_accepted s e = not-false _ (none (latch_table s) refl e).0

pub reset_accepted : (s : State) → reset_number s ≡ 0 → state_ok s ≡ true
unfolding reset_number reset_table
reset_accepted s e = not-false _ (none (reset_table s) refl e).0

-- ---- kept in range

-- frames keep the part group under 512
frame_kept : (ts : List ℕ) (c : Scalers) (f : List ℕ) → scalers_ok (count_frame ts c f) ≡ true
unfolding scalers_ok count_frame
frame_kept ts c f = lt-ltb ((c.part + 1) % group_frames) group_frames (omega arith)

counted_kept : (ts : List ℕ) (c : Scalers) (fs : List (List ℕ)) → scalers_ok c ≡ true → scalers_ok (count_frames ts c fs) ≡ true
unfolding count_frames
counted_kept ts c [] h = h
counted_kept ts c (f ∷ fs) h = counted_kept ts (count_frame ts c f) fs (frame_kept ts c f)

pub count_kept : (s : State) (samples : List ℕ) → count_number s samples ≡ 0 → state_ok (with_frames s samples) ≡ true
count_kept s samples e =
    let ok = (count_accepted s samples e).state in
    scalers_kept s ok (count_frames s.settings.thresholds s.scalers (frames_of samples)) (counted_kept s.settings.thresholds s.scalers (frames_of samples) (state_scalers s ok))

pub latch_kept : (s : State) → latch_number s ≡ 0 → state_ok (with_scalers s (latched_now s.scalers)) ≡ true
unfolding latched_now scalers_ok
latch_kept s e = let ok = latch_accepted s e in scalers_kept s ok (latched_now s.scalers) (state_scalers s ok)

pub reset_kept : (s : State) → reset_number s ≡ 0 → state_ok (with_scalers s (reset_now s.scalers)) ≡ true
unfolding reset_now scalers_ok
reset_kept s e = scalers_kept s (reset_accepted s e) (reset_now s.scalers) refl

-- ---- two results that a call's statement allows are equal

pub count_unique : (s : State) (samples : List ℕ) (a b : Answer) → CountSays s samples a → CountSays s samples b → a ≡ b
count_unique s samples a b p q = one_answer a b p.refusal q.refusal p.state q.state

pub latch_unique : (s : State) (a b : Answer) → LatchSays s a → LatchSays s b → a ≡ b
latch_unique s a b p q = one_answer a b p.refusal q.refusal p.state q.state

pub reset_unique : (s : State) (a b : Answer) → ResetSays s a → ResetSays s b → a ≡ b
reset_unique s a b p q = one_answer a b p.refusal q.refusal p.state q.state
