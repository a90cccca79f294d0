-- What is counted of frames and of events: document 02, "Scaler words". Assumes nothing.
use Rattle.std.specs.Prelude.{ℕ, zero, suc, ◌+◌, ◌/◌, ◌%◌, ◌^◌, Bool, false, cond, not, ◌&&◌, List, [], ◌∷◌, ◌++◌, length, take, drop, replicate}
use Rattle.samples.specs.Sample.{is_over}
use Rattle.scalers.specs.declared.Scalers.{Scalers}

-- "All wrap at 2^32, as asked"
unfoldable pub wrapped : ℕ → ℕ
wrapped n = n % 2 ^ 32

-- "whole groups of 512 frames (2,048 ns)"
abbrev pub group_frames : ℕ
group_frames = 512

-- "Feed frames of sixteen samples"
abbrev pub frame_samples : ℕ
frame_samples = 16

-- before the first frame and the first event: "the first frame counting as if all had been under"; "the latched ones, which are zero before any latch"
unfoldable pub nothing_counted : Scalers
nothing_counted = record { counts = replicate 16 0; timer = 0; triggers = 0; part = 0; over = replicate 16 false; latched = replicate 18 0 }

-- ---- one frame

-- which channels are over in a frame, by their thresholds
unfoldable pub overs_of : List ℕ → List ℕ → List Bool
overs_of [] frame = []
overs_of (t ∷ ts) [] = []
overs_of (t ∷ ts) (x ∷ xs) = is_over t x ∷ overs_of ts xs

-- "each channel counts the frames where it is over and was not in the frame before": 1 for a channel that counts, by what was and what is
unfoldable pub rises_of : List Bool → List Bool → List ℕ
rises_of [] now = []
rises_of (b ∷ bs) [] = []
rises_of (b ∷ bs) (n ∷ ns) = cond (n && not b) 1 0 ∷ rises_of bs ns

-- counts and what comes to each
unfoldable pub added_to : List ℕ → List ℕ → List ℕ
added_to [] more = []
added_to (n ∷ ns) [] = []
added_to (n ∷ ns) (m ∷ ms) = wrapped (n + m) ∷ added_to ns ms

-- "A timer counts whole groups of 512 frames": the part group grows up to one
unfoldable pub count_frame : List ℕ → Scalers → List ℕ → Scalers
count_frame thresholds s frame =
    record {
      counts = added_to s.counts (rises_of s.over (overs_of thresholds frame));
      timer = wrapped (s.timer + (s.part + 1) / group_frames);
      triggers = s.triggers;
      part = (s.part + 1) % group_frames;
      over = overs_of thresholds frame;
      latched = s.latched;
    }

-- ---- frames in a row

-- n frames, one behind the other
unfoldable pub frames_in : ℕ → List ℕ → List (List ℕ)
frames_in zero samples = []
frames_in (suc n) samples = take frame_samples samples ∷ frames_in n (drop frame_samples samples)

-- the whole frames of samples
unfoldable pub frames_of : List ℕ → List (List ℕ)
frames_of samples = frames_in (length samples / frame_samples) samples

unfoldable pub count_frames : List ℕ → Scalers → List (List ℕ) → Scalers
count_frames thresholds s [] = s
count_frames thresholds s (f ∷ fs) = count_frames thresholds (count_frame thresholds s f) fs

-- ---- events, latch and reset

-- "a trigger counter counts opened events"
unfoldable pub triggered : Scalers → Scalers
triggered s = record { counts = s.counts; timer = s.timer; triggers = wrapped (s.triggers + 1); part = s.part; over = s.over; latched = s.latched }

-- "Latch copies eighteen counts at once": "channels 0 to 15, timer, triggers"
unfoldable pub latched_now : Scalers → Scalers
latched_now s = record { counts = s.counts; timer = s.timer; triggers = s.triggers; part = s.part; over = s.over; latched = s.counts ++ (s.timer ∷ s.triggers ∷ []) }

-- "reset zeroes the running counts and the timer's part group, not the latched ones"; which channels were over stays too
unfoldable pub reset_now : Scalers → Scalers
reset_now s = record { counts = replicate 16 0; timer = 0; triggers = 0; part = 0; over = s.over; latched = s.latched }

-- a proof that computes opens this file and what it leans on by one name
unfoldable pub all_open : Unit {0}
unfolding wrapped nothing_counted overs_of rises_of added_to count_frame frames_in frames_of count_frames triggered latched_now reset_now Rattle.samples.specs.Sample.all_open
all_open = tt
