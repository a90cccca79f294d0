-- What an accepted call from C leaves loads as the state that the library's call gives. Assumes nothing.
use Rattle.std.specs.Prelude.{ℕ, ◌≡◌, refl, Bool, true, false, cond, List, drop}
use Rattle.std.proofs.Common.{sym, arith}
use Rattle.refusals.specs.Refusal.{number_of}
use Rattle.refusals.specs.declared.Refusal.TheVariants as R
use Rattle.scalers.specs.declared.Scalers.{Scalers}
use Rattle.scalers.specs.Scalers.{latched_now, reset_now}
use Rattle.state.specs.State.{state_ok, with_scalers}
use Rattle.places.specs.Places.{front_count, is_state}
use Rattle.places.specs.PlacesLaws.{state_settings_held}
use Rattle.numbers.specs.Numbers.{table, marks_from, state_from, numbers_of}
use Rattle.numbers.specs.BackLaws.{Loads, state_back}
use Rattle.numbers.specs.ScalersLaws.{Sized}
use Rattle.numbers.specs.SizedLaws.{sized_counted, sized_latched, sized_reset}
use Rattle.counting.specs.Counting.{with_frames}
use Rattle.counting.specs.CountingLaws.{count_kept, latch_kept, reset_kept}
use Rattle.hostcount.specs.Face.{CountFace, LatchFace, ResetFace}
use Rattle.hostcount.specs.FaceLaws.{loaded, thresholds}

accepted : (b : Bool) (number : ℕ) → 0 ≡ cond b number (number_of R.State) → (b ≡ true) × (number ≡ 0)
accepted true number e = (refl, sym e)
accepted false number e = absurd (omega arith)

counts_load : (n : List ℕ) (c : Scalers) → is_state n ≡ true → state_ok (with_scalers (state_from n) c) ≡ true → Sized c → Loads (numbers_of (with_scalers (state_from n) c)) (with_scalers (state_from n) c)
unfolding with_scalers state_from marks_from table
counts_load n c e h z = state_back (with_scalers (state_from n) c) (drop front_count n) h refl z (state_settings_held n e) refl

pub count_loads : (n samples n' : List ℕ) → CountFace n samples 0 n' → Loads n' (with_frames (state_from n) samples)
count_loads n samples n' f =
    let a = accepted (is_state n) _ f.number in
    rw f.numbers (counts_load n _ a.0 (count_kept (state_from n) samples a.1) (sized_counted _ _ samples (thresholds n a.0) (loaded n a.0)))

pub latch_loads : (n n' : List ℕ) → LatchFace n 0 n' → Loads n' (with_scalers (state_from n) (latched_now (state_from n).scalers))
latch_loads n n' f =
    let a = accepted (is_state n) _ f.number in
    rw f.numbers (counts_load n _ a.0 (latch_kept (state_from n) a.1) (sized_latched _ (loaded n a.0)))

pub reset_loads : (n n' : List ℕ) → ResetFace n 0 n' → Loads n' (with_scalers (state_from n) (reset_now (state_from n).scalers))
reset_loads n n' f =
    let a = accepted (is_state n) _ f.number in
    rw f.numbers (counts_load n _ a.0 (reset_kept (state_from n) a.1) (sized_reset _ (loaded n a.0)))
