-- The numbers that a call leaves are those of the state that it gives. Assumes nothing.
use Rattle.std.specs.Prelude.{ℕ, ◌≡◌, true, List, length, drop}
use Rattle.std.proofs.Common.{sym, ap, ◌∙◌, arith, length-take, length-drop}
use Rattle.ground.specs.Tests.{first_of}
use Rattle.refusals.specs.Refusal.{number_of, told, if_accepted}
use Rattle.refusals.specs.declared.Refusal.TheVariants as R
use Rattle.scalers.specs.declared.Scalers.{Scalers}
use Rattle.scalers.specs.Scalers.{frames_of, count_frames, latched_now, reset_now}
use Rattle.state.specs.declared.State.{State}
use Rattle.state.specs.State.{blank}
use Rattle.state.specs.StateLaws.{blank_out}
use Rattle.writer.specs.Answer.{Answer}
use Rattle.places.specs.Places.{thresholds_at, front_count, is_state}
use Rattle.places.specs.PlacesLaws.{state_count_lem}
use Rattle.numbers.specs.Numbers.{settings_from, state_from, state_or_none, scalers_stored}
use Rattle.numbers.specs.CallLaws.{call_number, call_scalers}
use Rattle.numbers.specs.ScalersLaws.{Sized, scaler_size}
use Rattle.numbers.specs.SizedLaws.{sized_loaded, sized_counted, sized_latched, sized_reset}
use Rattle.counting.specs.Counting.{count_table, count_number, CountSays, latch_table, latch_number, LatchSays, reset_table, reset_number, ResetSays}
use Rattle.hostcount.specs.Face.{CountFace, LatchFace, ResetFace, Kept}

-- ---- the inner function

left : {n : List ℕ} {number : ℕ} {c : Scalers} {r : ℕ} {n' : List ℕ} → Kept n number c r n' → n' ≡ if_accepted r (scalers_stored n c) n
left {n = n} {c = c} k = k.left ∙ ap (λ (j : ℕ). if_accepted j (scalers_stored n c) n) (sym k.answer)

-- ---- what a state's numbers hold

pub loaded : (n : List ℕ) → is_state n ≡ true → Sized (state_from n).scalers
unfolding state_from
loaded n e = sized_loaded n e

pub thresholds : (n : List ℕ) → is_state n ≡ true → length (state_from n).settings.thresholds ≡ 16
unfolding state_from settings_from
thresholds n e =
    let m = drop front_count n in
    omega (arith, length-take 16 (drop thresholds_at m), length-drop thresholds_at m, length-drop front_count n, state_count_lem n e)

-- ---- what stands for no state is refused

count_out : (samples : List ℕ) → count_number blank samples ≡ number_of R.State
unfolding count_number count_table first_of
count_out samples = rw blank_out

latch_out : latch_number blank ≡ number_of R.State
unfolding latch_number latch_table first_of
latch_out = rw blank_out

reset_out : reset_number blank ≡ number_of R.State
unfolding reset_number reset_table first_of
reset_out = rw blank_out

-- ---- the calls

module _ (n : List ℕ) {s : State} {a : Answer} {r : ℕ} {n' : List ℕ} (f : s ≡ state_or_none n) (k : Kept n (told a.refusal) a.state.scalers r n') where
  pub count_face : (samples : List ℕ) → CountSays s samples a → CountFace n samples r n'
  count_face samples d =
      let number : State → ℕ = λ x. count_number x samples in
      let g = k.answer ∙ d.refusal in
      let new : State → Scalers = λ x. count_frames x.settings.thresholds x.scalers (frames_of samples) in
      record {
        number = call_number n number (count_out samples) f g;
        numbers = call_scalers n number (count_out samples) f g new (λ e. scaler_size _ (sized_counted _ _ samples (thresholds n e) (loaded n e))) d.state (left k);
      }

  pub latch_face : LatchSays s a → LatchFace n r n'
  latch_face d =
      let g = k.answer ∙ d.refusal in
      let new : State → Scalers = λ x. latched_now x.scalers in
      record {
        number = call_number n latch_number latch_out f g;
        numbers = call_scalers n latch_number latch_out f g new (λ e. scaler_size _ (sized_latched _ (loaded n e))) d.state (left k);
      }

  pub reset_face : ResetSays s a → ResetFace n r n'
  reset_face d =
      let g = k.answer ∙ d.refusal in
      let new : State → Scalers = λ x. reset_now x.scalers in
      record {
        number = call_number n reset_number reset_out f g;
        numbers = call_scalers n reset_number reset_out f g new (λ e. scaler_size _ (sized_reset _ (loaded n e))) d.state (left k);
      }
