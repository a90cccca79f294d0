-- What is counted keeps its sizes and its 32 bits, whatever counts it. Assumes nothing.
use Rattle.std.specs.Prelude.{ℕ, zero, suc, ◌+◌, ◌*◌, ◌/◌, ◌≤◌, ◌≡◌, refl, true, length, take, drop, replicate}
use mathlib.Core.List.{List, [], ◌∷◌, ◌++◌}
use Rattle.std.proofs.Common.{arith, length-take, length-drop}
use Rattle.std.proofs.Math.ListN.{length-append}
use Rattle.ground.specs.TestsLaws.{Under}
use Rattle.scalers.specs.declared.Scalers.{Scalers}
use Rattle.scalers.specs.Scalers.{wrapped, group_frames, frame_samples, nothing_counted, overs_of, rises_of, added_to, count_frame, frames_in, frames_of, count_frames, triggered, latched_now, reset_now}
use Rattle.scalers.specs.FrameLaws.{length_overs, length_rises, length_added}
use Rattle.places.specs.Places.{most32, counts_at, latched_at, timer_at, triggers_at, part_at, is_state}
use Rattle.places.specs.PlacesLaws.{front_held}
use Rattle.numbers.specs.Numbers.{table, marks_from, scalers_from}
use Rattle.numbers.specs.ScalersLaws.{row_size, row_small, counts_wide, latched_wide, Sized}

-- ---- what was loaded

pub sized_loaded : (n : List ℕ) → is_state n ≡ true → Sized (scalers_from n)
unfolding scalers_from marks_from table
sized_loaded n e =
    record {
      counts = (row_size n e counts_at 16 (omega arith) counts_wide, row_small n e counts_at 16 (omega arith) counts_wide);
      timer = front_held n e timer_at (omega arith);
      triggers = front_held n e triggers_at (omega arith);
      part = front_held n e part_at (omega arith);
      over = refl;
      latched = (row_size n e latched_at 18 (omega arith) latched_wide, row_small n e latched_at 18 (omega arith) latched_wide);
    }

zeros_small : (k : ℕ) → Under most32 (replicate k 0)
zeros_small zero = tt
zeros_small (suc k) = (omega arith, zeros_small k)

pub sized_none : Sized nothing_counted
unfolding nothing_counted
sized_none = record { counts = (refl, zeros_small 16); timer = omega arith; triggers = omega arith; part = omega arith; over = refl; latched = (refl, zeros_small 18) }

-- ---- what counts

wrapped_le : (n : ℕ) → wrapped n ≤ most32
unfolding wrapped
wrapped_le n = omega arith

added_small : (xs ys : List ℕ) → Under most32 (added_to xs ys)
unfolding added_to
added_small [] ys = tt
added_small (x ∷ xs) [] = tt
added_small (x ∷ xs) (y ∷ ys) = (wrapped_le (x + y), added_small xs ys)

module _ (c : Scalers) (z : Sized c) where
  pub sized_triggered : Sized (triggered c)
  unfolding triggered
  sized_triggered = record { counts = z.counts; timer = z.timer; triggers = wrapped_le (c.triggers + 1); part = z.part; over = z.over; latched = z.latched }

  pub sized_reset : Sized (reset_now c)
  unfolding reset_now
  sized_reset = record { counts = (refl, zeros_small 16); timer = omega arith; triggers = omega arith; part = omega arith; over = z.over; latched = z.latched }

  pub sized_latched : Sized (latched_now c)
  unfolding latched_now
  sized_latched =
      record {
        counts = z.counts;
        timer = z.timer;
        triggers = z.triggers;
        part = z.part;
        over = z.over;
        latched = (omega (arith, length-append c.counts (c.timer ∷ c.triggers ∷ []), z.counts.0), behind c.counts z.counts.1);
      }
    where
      behind : (xs : List ℕ) → Under most32 xs → Under most32 (xs ++ (c.timer ∷ c.triggers ∷ []))
      behind [] u = (z.timer, (z.triggers, tt))
      behind (x ∷ xs) u = (u.0, behind xs u.1)

  sized_frame : (ts f : List ℕ) → length ts ≡ 16 → length f ≡ 16 → Sized (count_frame ts c f)
  unfolding count_frame
  sized_frame ts f h k =
      let overs = length_overs ts f (omega (arith, h, k)) in
      let rises = length_rises c.over (overs_of ts f) (omega (arith, overs, k, z.over)) in
      record {
        counts = (omega (arith, length_added c.counts (rises_of c.over (overs_of ts f)) (omega (arith, rises, overs, k, z.counts.0)), z.counts.0), added_small c.counts (rises_of c.over (overs_of ts f)));
        timer = wrapped_le (c.timer + (c.part + 1) / group_frames);
        triggers = z.triggers;
        part = omega arith;
        over = omega (arith, overs, k);
        latched = z.latched;
      }

pub sized_frames : (ts : List ℕ) (c : Scalers) (n : ℕ) (samples : List ℕ) → length ts ≡ 16 → frame_samples * n ≤ length samples → Sized c → Sized (count_frames ts c (frames_in n samples))
unfolding count_frames frames_in
sized_frames ts c zero samples h k z = z
sized_frames ts c (suc n) samples h k z =
    sized_frames ts (count_frame ts c (take frame_samples samples)) n (drop frame_samples samples) h (omega (arith, k, length-drop frame_samples samples))
    (sized_frame c z ts (take frame_samples samples) h (omega (arith, k, length-take frame_samples samples)))

pub sized_counted : (ts : List ℕ) (c : Scalers) (samples : List ℕ) → length ts ≡ 16 → Sized c → Sized (count_frames ts c (frames_of samples))
unfolding frames_of
sized_counted ts c samples h z = sized_frames ts c (length samples / frame_samples) samples h (omega arith) z
