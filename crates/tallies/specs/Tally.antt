-- What a state holds of its counts after any calls since a set up, said over all the frames fed: document 02, "Scaler words". Assumes nothing.
use Rattle.std.specs.Prelude.{ℕ, suc, ◌+◌, ◌/◌, ◌%◌, ◌^◌, ◌≡◌, Bool, false, not, cond, ◌&&◌, List, [], ◌∷◌, ◌++◌, map, length, get_or}
use Rattle.refusals.specs.Refusal.{told}
use Rattle.samples.specs.Sample.{is_over}
use Rattle.settings.specs.declared.Settings.{Settings}
use Rattle.scalers.specs.declared.Scalers.{Scalers}
use Rattle.scalers.specs.Scalers.{frames_of}
use Rattle.state.specs.declared.State.{State}
use Rattle.writer.specs.Answer.{Answer}
use Rattle.writer.specs.Answer.{Finished}
use Rattle.writer.specs.Calls.{SetUpSays, OpenBlockSays, OpenEventSays, PostSays, FinishSays}
use Rattle.closing.specs.Closing.{CloseSays}
use Rattle.counting.specs.Counting.{CountSays, LatchSays, ResetSays}

-- ---- one channel in a list of frames

-- its samples, in order
unfoldable pub column : ℕ → List (List ℕ) → List ℕ
column c fs = map (λ (f : List ℕ). get_or f c 0) fs

-- it is over in the last of its samples; `was` where there is none
unfoldable pub last_over : ℕ → Bool → List ℕ → Bool
last_over threshold was [] = was
last_over threshold was (x ∷ xs) = last_over threshold (is_over threshold x) xs

-- "each channel counts the frames where it is over and was not in the frame before": how often in its samples, `was` for the frame before them
unfoldable pub edges : ℕ → Bool → List ℕ → ℕ
edges threshold was [] = 0
edges threshold was (x ∷ xs) = cond (is_over threshold x && not was) 1 0 + edges threshold (is_over threshold x) xs

-- ---- what came since a set up

-- up to a moment: the frames fed before the last reset, those fed since, and how many events were opened since
pub record Moment : Type 0 where
  pub before : List (List ℕ)
  pub since : List (List ℕ)
  pub opened : ℕ

-- just set up
abbrev pub fresh : Moment
fresh = record { before = []; since = []; opened = 0 }

-- frames fed: they come behind the others
abbrev pub fed : Moment → List (List ℕ) → Moment
fed m fs = record { before = m.before; since = m.since ++ fs; opened = m.opened }

-- an event opened
abbrev pub one_more : Moment → Moment
one_more m = record { before = m.before; since = m.since; opened = suc m.opened }

-- a reset: all frames so far lie before it
abbrev pub anew : Moment → Moment
anew m = record { before = m.before ++ m.since; since = []; opened = 0 }

-- ---- any calls since a set up

-- a call that counts nothing, as its contract says: the state that it came on, and the one that it leaves
pub data Uncounted : State → State → Type 0 where
  -- a block opened, a channel posted, an event closed, the block finished; or refused
  block : {s : State} (words : List ℕ) (number events : ℕ) (r : Answer) (words' : List ℕ) → OpenBlockSays s words number events r words' → Uncounted s r.state
  post : {s : State} (store : List ℕ) (c : ℕ) (w : List ℕ) (r : Answer) (store' : List ℕ) → PostSays s store c w r store' → Uncounted s r.state
  close : {s : State} (store words : List ℕ) (asked : Bool) (r : Answer) (words' : List ℕ) → CloseSays s store words asked r words' → Uncounted s r.state
  finish : {s : State} (words : List ℕ) (r : Finished) (words' : List ℕ) → FinishSays s words r words' → Uncounted s r.state
  -- frames, an event, a latch or a reset refused
  no_frames : {s : State} (samples : List ℕ) (r : Answer) → CountSays s samples r → (told r.refusal ≡ 0 → ⊥) → Uncounted s r.state
  no_event : {s : State} (number time : ℕ) (r : Answer) → OpenEventSays s number time r → (told r.refusal ≡ 0 → ⊥) → Uncounted s r.state
  no_latch : {s : State} (r : Answer) → LatchSays s r → (told r.refusal ≡ 0 → ⊥) → Uncounted s r.state
  no_reset : {s : State} (r : Answer) → ResetSays s r → (told r.refusal ≡ 0 → ⊥) → Uncounted s r.state

-- calls in any order since an accepted set up, each as its contract says and from the state that the last one left; with it the moment reached, and that of
-- the last latch
pub data Tallied : State → Moment → Moment → Type 0 where
  -- of as many thresholds as the type of settings has; "the latched ones, which are zero before any latch"
  set_up : (settings : Settings) (r : Answer) → length settings.thresholds ≡ 16 → SetUpSays settings r → told r.refusal ≡ 0 → Tallied r.state fresh fresh
  -- accepted
  frames : {s : State} {now held : Moment} → Tallied s now held → (samples : List ℕ) (r : Answer) → CountSays s samples r → told r.refusal ≡ 0
      → Tallied r.state (fed now (frames_of samples)) held
  event : {s : State} {now held : Moment} → Tallied s now held → (number time : ℕ) (r : Answer) → OpenEventSays s number time r → told r.refusal ≡ 0
      → Tallied r.state (one_more now) held
  latch : {s : State} {now held : Moment} → Tallied s now held → (r : Answer) → LatchSays s r → told r.refusal ≡ 0 → Tallied r.state now now
  reset : {s : State} {now held : Moment} → Tallied s now held → (r : Answer) → ResetSays s r → told r.refusal ≡ 0 → Tallied r.state (anew now) held
  -- any other, and any refused
  other : {s t : State} {now held : Moment} → Tallied s now held → Uncounted s t → Tallied t now held

-- ---- what is counted, by the thresholds

abbrev pub channels : List ℕ
channels = 0 ∷ 1 ∷ 2 ∷ 3 ∷ 4 ∷ 5 ∷ 6 ∷ 7 ∷ 8 ∷ 9 ∷ 10 ∷ 11 ∷ 12 ∷ 13 ∷ 14 ∷ 15 ∷ []

-- a channel is over in the last of frames: "the first frame counting as if all had been under"
abbrev pub over_in : List ℕ → List (List ℕ) → ℕ → Bool
over_in thresholds fs c = last_over (get_or thresholds c 0) false (column c fs)

-- how often it went over since the last reset; where it was over in the last frame before that, the first behind it is no change
abbrev pub edges_in : List ℕ → Moment → ℕ → ℕ
edges_in thresholds m c = edges (get_or thresholds c 0) (over_in thresholds m.before c) (column c m.since)

-- "All wrap at 2^32"
abbrev pub counts_at : List ℕ → Moment → List ℕ
counts_at thresholds m = map (λ (c : ℕ). edges_in thresholds m c % 2 ^ 32) channels

-- "A timer counts whole groups of 512 frames"
abbrev pub timer_at : Moment → ℕ
timer_at m = (length m.since / 512) % 2 ^ 32

-- "a trigger counter counts opened events"
abbrev pub triggers_at : Moment → ℕ
triggers_at m = m.opened % 2 ^ 32

-- "channels 0 to 15, timer, triggers"
abbrev pub eighteen_at : List ℕ → Moment → List ℕ
eighteen_at thresholds m = counts_at thresholds m ++ (timer_at m ∷ triggers_at m ∷ [])

-- all that a state holds of it: the counts now, those of the last latch, and what the next frame needs
unfoldable pub tally_of : List ℕ → Moment → Moment → Scalers
tally_of thresholds now held =
    record {
      counts = counts_at thresholds now;
      timer = timer_at now;
      triggers = triggers_at now;
      part = length now.since % 512;
      over = map (over_in thresholds (now.before ++ now.since)) channels;
      latched = eighteen_at thresholds held;
    }
