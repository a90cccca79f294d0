-- The settings and the state of the numbers that the host lends, and theirs. Assumes nothing.
use Rattle.std.specs.Prelude.{ℕ, zero, suc, ◌+◌, ◌*◌, ◌/◌, ◌%◌, ◌^◌, Bool, cond, ◌&&◌, List, [], ◌∷◌, ◌++◌, eqb, length, get_or, take, drop}
use Rattle.places.specs.Places.{mode_at, nw_at, pl_at, nsb_at, nsa_at, limit_at, slot_at, parameters_at, times_at, multiple_at, thresholds_at, settings_count, phase_at, block_at, events_at, event_at, trigger_time_at, marks_at, closed_at, words_at, head_count, counts_at, timer_at, triggers_at, part_at, over_at, latched_at, front_count, state_count, is_settings, is_state}
use Rattle.copies.specs.Copies.{pasted}
use Rattle.settings.specs.declared.Settings.{Settings}
use Rattle.scalers.specs.declared.Scalers.{Scalers}
use Rattle.state.specs.declared.Phase.{Phase}
use Rattle.state.specs.declared.Phase.TheVariants.{Idle, Block, Event}
use Rattle.state.specs.declared.State.{State}
use Rattle.state.specs.State.{blank}

-- ---- the settings and the state of numbers

unfoldable pub settings_from : List ℕ → Settings
settings_from n =
    record {
      mode = get_or n mode_at 0;
      nw = get_or n nw_at 0;
      pl = get_or n pl_at 0;
      nsb = get_or n nsb_at 0;
      nsa = get_or n nsa_at 0;
      limit = get_or n limit_at 0;
      slot = get_or n slot_at 0;
      parameters = eqb (get_or n parameters_at 0) 1;
      times = get_or n times_at 0;
      multiple = get_or n multiple_at 0;
      thresholds = take 16 (drop thresholds_at n);
    }

-- 0 idle, 1 in a block, 2 in an event
abbrev pub phase_from : ℕ → Phase
phase_from n = cond (eqb n 0) Idle (cond (eqb n 1) Block Event)

-- g i, g (i + 1), .., k of them
unfoldable pub table : {A : Type 0} → (ℕ → A) → ℕ → ℕ → List A
table g zero i = []
table g (suc k) i = g i ∷ table g k (i + 1)

-- channel c is posted where bit c is set
unfoldable pub marks_from : ℕ → List Bool
marks_from n = table (λ c. eqb (n / 2 ^ c % 2) 1) 16 0

-- channel c was over in the last frame where bit c is set
unfoldable pub scalers_from : List ℕ → Scalers
scalers_from n =
    record {
      counts = take 16 (drop counts_at n);
      timer = get_or n timer_at 0;
      triggers = get_or n triggers_at 0;
      part = get_or n part_at 0;
      over = marks_from (get_or n over_at 0);
      latched = take 18 (drop latched_at n);
    }

unfoldable pub state_from : List ℕ → State
state_from n =
    record {
      phase = phase_from (get_or n phase_at 0);
      block = get_or n block_at 0;
      events = get_or n events_at 0;
      event = get_or n event_at 0;
      time = get_or n trigger_time_at 0;
      posted = marks_from (get_or n marks_at 0);
      closed = get_or n closed_at 0;
      words = get_or n words_at 0;
      scalers = scalers_from n;
      settings = settings_from (drop front_count n);
    }

-- any numbers: those that are no state stand for none, which every call refuses with 10
abbrev pub state_or_none : List ℕ → State
state_or_none n = cond (is_state n) (state_from n) blank

-- the same of settings, which every call refuses with 1
abbrev pub settings_or_none : List ℕ → Settings
settings_or_none n = cond (is_settings n) (settings_from n) blank.settings

-- ---- the numbers of settings and of a state

abbrev pub mark_bit : Bool → ℕ
mark_bit b = cond b 1 0

unfoldable pub settings_numbers : Settings → List ℕ
settings_numbers s =
    s.mode ∷ s.nw ∷ s.pl ∷ s.nsb ∷ s.nsa ∷ s.limit ∷ s.slot ∷ mark_bit s.parameters ∷ s.times ∷ s.multiple ∷ s.thresholds

abbrev pub phase_number : Phase → ℕ
phase_number Idle = 0
phase_number Block = 1
phase_number Event = 2

-- bit c is set where channel c is posted
unfoldable pub marks_number : List Bool → ℕ
marks_number [] = 0
marks_number (b ∷ bs) = mark_bit b + 2 * marks_number bs

-- the numbers that a call of writing may change
unfoldable pub head_of : State → List ℕ
head_of s =
    phase_number s.phase ∷ s.block ∷ s.events ∷ s.event ∷ s.time ∷ marks_number s.posted ∷ s.closed ∷ s.words ∷ []

-- those that a call of counting may change
unfoldable pub scaler_numbers : Scalers → List ℕ
scaler_numbers c = c.counts ++ (c.timer ∷ c.triggers ∷ c.part ∷ marks_number c.over ∷ c.latched)

unfoldable pub numbers_of : State → List ℕ
numbers_of s = head_of s ++ (scaler_numbers s.scalers ++ settings_numbers s.settings)

-- ---- what storing leaves of the numbers n

-- a state's head over their front; fewer stay as they were
abbrev pub head_stored : List ℕ → State → List ℕ
head_stored n s = pasted n 0 (head_of s)

-- what is counted behind a state's head; fewer stay as they were
abbrev pub scalers_stored : List ℕ → Scalers → List ℕ
scalers_stored n c = pasted n head_count (scaler_numbers c)

-- a state whole, its settings given as their numbers; where either are not as many as they should be, n stay as they were
abbrev pub state_stored : List ℕ → State → List ℕ → List ℕ
state_stored n s m = cond (eqb (length n) state_count && eqb (length m) settings_count) (head_of s ++ (scaler_numbers s.scalers ++ m)) n
