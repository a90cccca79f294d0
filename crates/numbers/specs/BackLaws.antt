-- The numbers of settings and of a state in their ranges are settings and a state, and load back to them. Assumes nothing.
use Rattle.std.specs.Prelude.{ℕ, zero, suc, ◌+◌, ◌*◌, ◌^◌, ◌≤◌, ◌<◌, ◌≡◌, refl, Bool, true, false, List, [], ◌∷◌, ◌++◌, length, get_or, set, take, drop}
use Rattle.std.proofs.Common.{sym, ap, ap₂, ◌∙◌, subst, mod-eq_of_lt, pow-suc, arith, le-leb, length-drop, take-append-drop, take_all, take_at, drop_at}
use Rattle.limits.proofs.LimitsLaws.{most_event_lem}
use Rattle.scalers.specs.Scalers.{triggered}
use Rattle.state.specs.declared.Phase.{Phase}
use Rattle.state.specs.declared.Phase.TheVariants.{Idle, Block, Event}
use Rattle.state.specs.declared.State.{State}
use Rattle.state.specs.State.{is_idle, is_block, is_event, state_ok, with_event, with_mark}
use Rattle.state.specs.StateLaws.{idle_says, block_says, event_says, words_le}
use Rattle.places.specs.Places.{parameters_at, thresholds_at, most32, most64, settings_limits, phase_at, block_at, events_at, event_at, trigger_time_at, marks_at, closed_at, words_at, head_limits, head_count, counts_at, triggers_at, scaler_limits, front_limits, front_count, held_in, is_settings, is_state}
use Rattle.numbers.specs.Numbers.{settings_from, phase_from, table, marks_from, scalers_from, state_from, mark_bit, settings_numbers, phase_number, marks_number, head_of, scaler_numbers, numbers_of}
use Rattle.places.specs.PlacesLaws.{held_at, held_parts, settings_count_lem, state_count_lem, state_settings_held, front_held}
use Rattle.numbers.specs.NumbersLaws.{marks_small}
use Rattle.numbers.specs.MarksLaws.{from_place, bit_back, marks_back, marks_there}
use Rattle.numbers.specs.ScalersLaws.{row_size, counts_wide, Sized, scalers_there, scaler_size, scalers_held, scalers_back}

-- ---- settings, loaded and stored

pub settings_back : (m : List ℕ) → is_settings m ≡ true → settings_numbers (settings_from m) ≡ m
unfolding is_settings settings_numbers settings_from table
settings_back m e =
    let rest : take 16 (drop thresholds_at m) ≡ drop thresholds_at m = take_all 16 (drop thresholds_at m) (omega (arith, settings_count_lem m e, length-drop thresholds_at m)) in
    rw (bit_back (get_or m parameters_at 0) (held_at settings_limits m e parameters_at), rest) (sym (from_place m thresholds_at 0 (omega (arith, settings_count_lem m e))))

-- ---- the phase and the marks

phase_back : (p : Phase) → phase_from (phase_number p) ≡ p
phase_back Idle = refl
phase_back Block = refl
phase_back Event = refl

phase_le : (p : Phase) → phase_number p ≤ 2
phase_le Idle = omega arith
phase_le Block = omega arith
phase_le Event = omega arith

phase_there : (x : ℕ) → x ≤ 2 → phase_number (phase_from x) ≡ x
phase_there zero h = refl
phase_there (suc zero) h = refl
phase_there (suc (suc zero)) h = refl
phase_there (suc (suc (suc x))) h = absurd (omega arith)

-- numbers that are a state are those of the state that they load as: the head,
pub head_back : (n : List ℕ) → is_state n ≡ true → head_of (state_from n) ≡ take head_count n
unfolding head_of state_from marks_from table
head_back n e =
    let at : ℕ → ℕ = λ i. get_or n i 0 in
    let marks : at marks_at < 2 ^ 16 = omega (arith, front_held n e marks_at (omega arith)) in
    ap₂ (λ (p m : ℕ). p ∷ at block_at ∷ at events_at ∷ at event_at ∷ at trigger_time_at ∷ m ∷ at closed_at ∷ at words_at ∷ []) (phase_there (at phase_at) (front_held n e phase_at (omega arith)))
    (marks_there 16 (at marks_at) ∙ mod-eq_of_lt marks)
    ∙ sym (ap (take head_count) (from_place n head_count 0 (omega (arith, state_count_lem n e))))

-- and what is behind it
pub behind_back : (n : List ℕ) → is_state n ≡ true → scaler_numbers (state_from n).scalers ++ settings_numbers (state_from n).settings ≡ drop head_count n
unfolding state_from
behind_back n e = ap (λ (l : List ℕ). scaler_numbers (scalers_from n) ++ l) (settings_back (drop front_count n) (state_settings_held n e)) ∙ scalers_there n e

pub numbers_back : (n : List ℕ) → is_state n ≡ true → numbers_of (state_from n) ≡ n
unfolding numbers_of
numbers_back n e = ap₂ (λ (x y : List ℕ). x ++ y) (head_back n e) (behind_back n e) ∙ take-append-drop head_count n

-- ---- an event more, a mark more

-- the number behind the sixteen counts and the timer
set_trigger : (k : ℕ) (counts rest settings : List ℕ) (timer triggers new : ℕ) → length counts ≡ k → (counts ++ (timer ∷ new ∷ rest)) ++ settings ≡ set ((counts ++ (timer ∷ triggers ∷ rest)) ++ settings) (k + 1) new
set_trigger zero [] rest settings timer triggers new h = refl
set_trigger zero (x ∷ counts) rest settings timer triggers new h = absurd (omega arith)
set_trigger (suc k) [] rest settings timer triggers new h = absurd (omega arith)
set_trigger (suc k) (x ∷ counts) rest settings timer triggers new h =
    let e : suc k + 1 ≡ suc (k + 1) = omega arith in
    rw e (ap (λ (l : List ℕ). x ∷ l) (set_trigger k counts rest settings timer triggers new (omega arith)))

pub event_stored : (n : List ℕ) (event time : ℕ) → is_state n ≡ true
    → numbers_of (with_event (state_from n) event time) ≡ set (set (set (set n phase_at (phase_number Event)) event_at event) trigger_time_at time) triggers_at (with_event (state_from n) event time).scalers.triggers
unfolding numbers_of head_of with_event triggered state_from scalers_from scaler_numbers
event_stored n event time e =
    let s = state_from n in
    let c = s.scalers in
    let size : length c.counts ≡ 16 = row_size n e counts_at 16 (omega arith) counts_wide in
    let new = (with_event s event time).scalers.triggers in
    ap (λ (l : List ℕ). phase_number Event ∷ s.block ∷ s.events ∷ event ∷ time ∷ marks_number s.posted ∷ s.closed ∷ s.words ∷ l)
    (set_trigger 16 c.counts (c.part ∷ marks_number c.over ∷ c.latched) (settings_numbers s.settings) c.timer c.triggers new size)
    ∙ ap (λ (l : List ℕ). set (set (set (set l phase_at (phase_number Event)) event_at event) trigger_time_at time) triggers_at new) (numbers_back n e)

-- a channel that is not marked, marked: its bit is added
marks_more : (bs : List Bool) (c : ℕ) → c < length bs → get_or bs c false ≡ false → marks_number (set bs c true) ≡ marks_number bs + 2 ^ c
unfolding marks_number
marks_more [] c h e = absurd (omega arith)
marks_more (b ∷ bs) zero h e = rw e (omega arith)
marks_more (b ∷ bs) (suc c) h e = ap (λ (m : ℕ). mark_bit b + 2 * m) (marks_more bs c (omega arith) e) ∙ omega (arith, pow-suc 2 c)

pub mark_stored : (n : List ℕ) (c : ℕ) → is_state n ≡ true → c < 16 → get_or (state_from n).posted c false ≡ false
    → numbers_of (with_mark (state_from n) (set (state_from n).posted c true)) ≡ set n marks_at (get_or n marks_at 0 + 2 ^ c)
unfolding numbers_of head_of state_from with_mark marks_from table
mark_stored n c e h fresh =
    let m = get_or n marks_at 0 in
    let small : m < 2 ^ 16 = omega (arith, front_held n e marks_at (omega arith)) in
    let bit : marks_number (set (marks_from m) c true) ≡ m + 2 ^ c =
    marks_more (marks_from m) c h fresh ∙ ap (λ (k : ℕ). k + 2 ^ c) (marks_there 16 m ∙ mod-eq_of_lt small)
    in
    ap₂ (λ (l : List ℕ) (k : ℕ). set l marks_at k) (numbers_back n e) bit

-- ---- the numbers of a state in its ranges are held

record Held (s : State) : Type 0 where
  block : s.block ≤ 1023
  events : s.events ≤ 255
  event : s.event ≤ 4194303
  time : s.time ≤ 281474976710655
  closed : s.closed ≤ 255

held_by : (s : State) → state_ok s ≡ true → (p : Phase) → s.phase ≡ p → Held s
held_by s h Idle e =
    let i = idle_says s h (ap is_idle e) in
    record { block = omega (arith, i.block); events = omega (arith, i.events); event = omega (arith, i.event); time = omega (arith, i.time); closed = omega (arith, i.closed) }
held_by s h Block e =
    let b = block_says s h (ap is_block e) in
    let events = b.inside.events.1 in
    record { block = b.inside.number; events = events; event = omega (arith, b.event); time = omega (arith, b.time); closed = omega (arith, events, b.closed) }
held_by s h Event e =
    let v = event_says s h (ap is_event e) in
    let events = v.inside.events.1 in
    record { block = v.inside.number; events = events; event = v.number; time = v.time; closed = omega (arith, events, v.closed) }

head_held_in : (s : State) → state_ok s ≡ true → length s.posted ≡ 16 → held_in head_limits (head_of s) ≡ true
unfolding held_in head_of
head_held_in s h k =
    let f = held_by s h s.phase refl in
    let marks : marks_number s.posted < 2 ^ 16 = ap_lt (marks_small s.posted) in
    rw (
      le-leb (phase_number s.phase) 2 (phase_le s.phase),
      le-leb s.block most32 (omega (arith, f.block)),
      le-leb s.events most32 (omega (arith, f.events)),
      le-leb s.event most32 (omega (arith, f.event)),
      le-leb s.time most64 (omega (arith, f.time)),
      le-leb (marks_number s.posted) 65535 (omega (arith, marks)),
      le-leb s.closed most32 (omega (arith, f.closed)),
      le-leb s.words most64 (omega (arith, words_le s h, most_event_lem)),
    )
  where
    ap_lt : {n : ℕ} → n < 2 ^ length s.posted → n < 2 ^ 16
    ap_lt {n = n} p = subst (λ (j : ℕ). n < 2 ^ j) k p

-- ---- a state's numbers load back to it

-- the numbers n are those of the state s
pub record Loads (n : List ℕ) (s : State) : Type 0 where
  pub state : is_state n ≡ true
  pub back : state_from n ≡ s

pub state_back : (s : State) (m : List ℕ) → state_ok s ≡ true → length s.posted ≡ 16 → Sized s.scalers → is_settings m ≡ true → s.settings ≡ settings_from m → Loads (numbers_of s) s
unfolding is_state state_from numbers_of head_of
state_back s m h k z e f =
    let stored : settings_numbers s.settings ≡ m = ap settings_numbers f ∙ settings_back m e in
    let c = scaler_numbers s.scalers in
    let front : take 38 (c ++ m) ≡ c = take_at c m 38 (scaler_size s.scalers z) in
    let behind : drop 38 (c ++ m) ≡ m = drop_at c m 38 (scaler_size s.scalers z) in
    let held : held_in front_limits (head_of s ++ c) ≡ true = held_parts head_limits scaler_limits (head_of s) c (scaler_size s.scalers z) ∙ rw (head_held_in s h k) (scalers_held s.scalers z) in
    record {
      state = rw (stored, front, behind, held) e;
      back = rw (stored, behind, phase_back s.phase, marks_back s.posted k, ← f, scalers_back s.scalers z (head_of s) m refl);
    }
