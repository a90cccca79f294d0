-- What a state in its ranges says, and which changes keep it there. Assumes nothing.
use Rattle.std.specs.Prelude.{ℕ, ◌+◌, ◌-◌, ◌*◌, ◌^◌, ◌≤◌, ◌<◌, ◌≡◌, Bool, false, cond, ◌&&◌, List, [], ◌∷◌, leb}
use Rattle.std.proofs.Math.Path.{refl}
use Rattle.std.proofs.Common.{sym, ap, ◌∙◌, add-mul, zero-mul, mul-le-mul, arith}
use Rattle.std.proofs.Math.Bool.{true}
use Rattle.std.proofs.lemmas.Bool.{false≢true}
use borrow.Author.Tests.{leb-true, le-leb, ltb-true, lt-ltb, eqb-true}
use Rattle.ground.specs.Tests.{all_of}
use Rattle.ground.specs.TestsLaws.{and_left, and_right, Every, every, all_of_lem}
use Rattle.limits.specs.Limits.{most_event}
use Rattle.limits.proofs.LimitsLaws.{most_event_lem}
use Rattle.settings.specs.declared.Settings.{Settings}
use Rattle.settings.specs.Ranges.{ranges, settings_ok}
use Rattle.scalers.specs.declared.Scalers.{Scalers}
use Rattle.scalers.specs.Scalers.{group_frames, nothing_counted, triggered}
use Rattle.state.specs.declared.Phase.{Phase}
use Rattle.state.specs.declared.Phase.TheVariants.{Idle, Block, Event}
use Rattle.state.specs.declared.State.{State}
use Rattle.state.specs.State.{block_ok, event_ok, head_words, least_event, words_ok, no_marks, in_block_ok, phase_tests, phase_ok, scalers_ok, common_ok, state_ok, is_idle, is_block, is_event, idle, blank, with_block, with_event, with_mark, with_closed, with_scalers}
use Rattle.state.specs.CodeLaws.{head_le}

-- ---- what a state in range says, by its phase

-- the ranges of a state are those of any phase and of its own
pub state_in : (s : State) (p : Phase) → s.phase ≡ p → state_ok s ≡ common_ok s && phase_ok p s
unfolding state_ok
state_in s p e = ap (λ (q : Phase). common_ok s && phase_ok q s) e

pub state_common : (s : State) → state_ok s ≡ true → common_ok s ≡ true
unfolding state_ok
state_common s h = and_left _ (phase_ok s.phase s) h

pub state_settings : (s : State) → state_ok s ≡ true → settings_ok s.settings ≡ true
unfolding common_ok
state_settings s h = and_left _ (scalers_ok s.scalers) (state_common s h)

pub state_scalers : (s : State) → state_ok s ≡ true → scalers_ok s.scalers ≡ true
unfolding common_ok
state_scalers s h = and_right (settings_ok s.settings) _ (state_common s h)

-- the part group is under 512
pub part_lt : (s : State) → state_ok s ≡ true → s.scalers.part < group_frames
unfolding scalers_ok
part_lt s h = ltb-true _ _ (state_scalers s h)

state_tests : (s : State) (p : Phase) → state_ok s ≡ true → s.phase ≡ p → Every (phase_tests p s)
unfolding state_ok phase_ok
state_tests s p h e = every (phase_tests p s) (ap (λ (q : Phase). phase_ok q s) (sym e) ∙ and_right (common_ok s) _ h)

pub is_idle_lem : (p : Phase) → is_idle p ≡ true → p ≡ Idle
is_idle_lem Idle h = refl
is_idle_lem Block h = absurd (false≢true h)
is_idle_lem Event h = absurd (false≢true h)

pub is_block_lem : (p : Phase) → is_block p ≡ true → p ≡ Block
is_block_lem Idle h = absurd (false≢true h)
is_block_lem Block h = refl
is_block_lem Event h = absurd (false≢true h)

pub is_event_lem : (p : Phase) → is_event p ≡ true → p ≡ Event
is_event_lem Idle h = absurd (false≢true h)
is_event_lem Block h = absurd (false≢true h)
is_event_lem Event h = refl

pub record IdleSays (s : State) : Type 0 where
  pub block : s.block ≡ 0
  pub events : s.events ≡ 0
  pub event : s.event ≡ 0
  pub time : s.time ≡ 0
  pub clear : no_marks s.posted ≡ true
  pub closed : s.closed ≡ 0
  pub words : s.words ≡ 0

pub idle_says : (s : State) → state_ok s ≡ true → is_idle s.phase ≡ true → IdleSays s
idle_says s h i =
    let t = state_tests s Idle h (is_idle_lem _ i) in
    let event = t.1.1 in
    let clear = event.1.1 in
    record {
      block = eqb-true _ _ t.0;
      events = eqb-true _ _ t.1.0;
      event = eqb-true _ _ event.0;
      time = eqb-true _ _ event.1.0;
      clear = clear.0;
      closed = eqb-true _ _ clear.1.0;
      words = eqb-true _ _ clear.1.1.0;
    }

-- in a block, an event of it open or not
pub record InBlock (s : State) : Type 0 where
  pub number : s.block ≤ 1023
  pub events : (1 ≤ s.events) × (s.events ≤ 255)
  pub least : head_words s.settings + s.closed * least_event s.settings ≤ s.words
  pub most : s.words ≤ 2 + s.closed * most_event

in_block : (s : State) → in_block_ok s ≡ true → InBlock s
unfolding block_ok words_ok
in_block s h =
    let numbers = every (leb s.block 1023 ∷ leb 1 s.events ∷ leb s.events 255 ∷ []) (and_left _ (words_ok (head_words s.settings) (least_event s.settings) s.closed s.words) h) in
    let words = and_right (block_ok s.block s.events) _ h in
    record {
      number = leb-true _ _ numbers.0;
      events = (leb-true _ _ numbers.1.0, leb-true _ _ numbers.1.1.0);
      least = leb-true _ _ (and_left _ (leb s.words (2 + s.closed * most_event)) words);
      most = leb-true _ _ (and_right (leb (head_words s.settings + s.closed * least_event s.settings) s.words) _ words);
    }

pub record BlockSays (s : State) : Type 0 where
  pub inside : InBlock s
  pub closed : s.closed ≤ s.events
  pub event : s.event ≡ 0
  pub time : s.time ≡ 0
  pub clear : no_marks s.posted ≡ true

pub block_says : (s : State) → state_ok s ≡ true → is_block s.phase ≡ true → BlockSays s
block_says s h i =
    let t = state_tests s Block h (is_block_lem _ i) in
    let event = t.1.1 in
    record {
      inside = in_block s t.0;
      closed = leb-true _ _ t.1.0;
      event = eqb-true _ _ event.0;
      time = eqb-true _ _ event.1.0;
      clear = event.1.1.0;
    }

pub record EventSays (s : State) : Type 0 where
  pub inside : InBlock s
  pub closed : s.closed < s.events
  pub number : s.event ≤ 4194303
  pub time : s.time ≤ 2 ^ 48 - 1

pub event_says : (s : State) → state_ok s ≡ true → is_event s.phase ≡ true → EventSays s
unfolding event_ok
event_says s h i =
    let t = state_tests s Event h (is_event_lem _ i) in
    record {
      inside = in_block s t.0;
      closed = ltb-true _ _ t.1.0;
      number = leb-true _ _ (and_left _ (leb s.time (2 ^ 48 - 1)) t.1.1.0);
      time = leb-true _ _ (and_right (leb s.event 4194303) _ t.1.1.0);
    }

-- ---- the words counted

-- the most words of a block before its trailer
pub words_le : (s : State) → state_ok s ≡ true → s.words ≤ 2 + 255 * most_event
words_le s h = go s.phase refl
  where
    in_it : InBlock s → s.closed ≤ s.events → s.words ≤ 2 + 255 * most_event
    in_it b k = omega (arith, b.most, mul-le-mul {n₁ = s.closed} {m₁ = most_event} {n₂ = 255} {m₂ = most_event} (omega (arith, b.events.1)) (omega arith))

    go : (p : Phase) → s.phase ≡ p → s.words ≤ 2 + 255 * most_event
    go Idle e = omega (arith, (idle_says s h (ap is_idle e)).words)
    go Block e = let b = block_says s h (ap is_block e) in in_it b.inside b.closed
    go Event e = let v = event_says s h (ap is_event e) in in_it v.inside (omega (arith, v.closed))

-- the trailer's count fits its 22 bits
pub trailer_fits : (s : State) → state_ok s ≡ true → s.words + 1 ≤ 4194303
trailer_fits s h = omega (arith, words_le s h, most_event_lem)

-- ---- the states that calls give are in their ranges

state_ok_lem : (s : State) → common_ok s ≡ true → (p : Phase) → s.phase ≡ p → Every (phase_tests p s) → state_ok s ≡ true
unfolding state_ok phase_ok
state_ok_lem s h p e t = rw (h, ap (λ (q : Phase). phase_ok q s) e) (all_of_lem (phase_tests p s) t)

pub idle_kept : (s : Settings) (c : Scalers) → settings_ok s ≡ true → scalers_ok c ≡ true → state_ok (idle s c) ≡ true
unfolding idle no_marks common_ok
idle_kept s c h k = state_ok_lem (idle s c) (rw (h, k)) Idle refl (refl, (refl, (refl, (refl, (refl, (refl, (refl, tt)))))))

-- nothing counted is within its range
pub none_counted : scalers_ok nothing_counted ≡ true
unfolding scalers_ok nothing_counted
none_counted = refl

-- one event more keeps the part group
pub trigger_kept : (c : Scalers) → scalers_ok (triggered c) ≡ scalers_ok c
unfolding scalers_ok triggered
trigger_kept c = refl

-- what stands for no state is in no range
pub blank_out : state_ok blank ≡ false
unfolding state_ok common_ok blank idle settings_ok ranges
blank_out = refl

-- a block's head are its first words
head_kept : (parameters : Bool) (event words : ℕ) → words ≡ 0 → words_ok (cond parameters 2 1) event 0 (words + cond parameters 2 1) ≡ true
unfolding words_ok
head_kept parameters event words e =
    rw (
      le-leb (cond parameters 2 1 + 0 * event) (words + cond parameters 2 1) (omega (arith, zero-mul event)),
      le-leb (words + cond parameters 2 1) (2 + 0 * most_event) (omega (arith, head_le parameters, zero-mul most_event)),
    )

-- an event's words more
words_more : (head event closed words n : ℕ) → event ≤ n → n ≤ most_event → words_ok head event closed words ≡ true → words_ok head event (closed + 1) (words + n) ≡ true
unfolding words_ok
words_more head event closed words n k l h =
    let least : head + closed * event ≤ words = leb-true _ _ (and_left _ (leb words (2 + closed * most_event)) h) in
    let most : words ≤ 2 + closed * most_event = leb-true _ _ (and_right (leb (head + closed * event) words) _ h) in
    rw (
      le-leb (head + (closed + 1) * event) (words + n) (omega (arith, add-mul closed 1 event)),
      le-leb (words + n) (2 + (closed + 1) * most_event) (omega (arith, add-mul closed 1 most_event)),
    )

module _ (s : State) (ok : state_ok s ≡ true) where
  pub block_kept : (number events : ℕ) → is_idle s.phase ≡ true → block_ok number events ≡ true → state_ok (with_block s number events (s.words + head_words s.settings)) ≡ true
  unfolding with_block no_marks common_ok
  block_kept number events i named =
      state_ok_lem (with_block s number events (s.words + head_words s.settings)) (state_common s ok) Block refl (
        rw named (head_kept s.settings.parameters (least_event s.settings) s.words (idle_says s ok i).words),
        (le-leb 0 events (omega arith), (refl, (refl, (refl, tt)))),
      )

  pub event_kept : (number time : ℕ) → is_block s.phase ≡ true → s.closed < s.events → event_ok number time ≡ true → state_ok (with_event s number time) ≡ true
  unfolding with_event common_ok
  event_kept number time i h named =
      state_ok_lem (with_event s number time) (rw (state_settings s ok, trigger_kept s.scalers) (state_scalers s ok)) Event refl ((state_tests s Block ok (is_block_lem _ i)).0, (lt-ltb _ _ h, (named, tt)))

  pub mark_kept : (posted : List Bool) → is_event s.phase ≡ true → state_ok (with_mark s posted) ≡ true
  unfolding with_mark common_ok
  mark_kept posted i =
      let p = is_event_lem _ i in
      state_ok_lem (with_mark s posted) (state_common s ok) Event p (state_tests s Event ok p)

  pub close_kept : (n : ℕ) → is_event s.phase ≡ true → least_event s.settings ≤ n → n ≤ most_event → state_ok (with_closed s (s.words + n)) ≡ true
  unfolding with_closed no_marks common_ok
  close_kept n i k l =
      let t = state_tests s Event ok (is_event_lem _ i) in
      let head = head_words s.settings in
      let event = least_event s.settings in
      let numbers : block_ok s.block s.events ≡ true = and_left _ (words_ok head event s.closed s.words) t.0 in
      let words = and_right (block_ok s.block s.events) _ t.0 in
      let less : s.closed < s.events = ltb-true _ _ t.1.0 in
      state_ok_lem (with_closed s (s.words + n)) (state_common s ok) Block refl (
        rw numbers (words_more head event s.closed s.words n k l words),
        (le-leb (s.closed + 1) s.events (omega arith), (refl, (refl, (refl, tt)))),
      )

  -- only what is counted changes, in any phase
  pub scalers_kept : (c : Scalers) → scalers_ok c ≡ true → state_ok (with_scalers s c) ≡ true
  unfolding with_scalers common_ok state_ok phase_ok
  scalers_kept c k = rw (state_settings s ok, k) (go s.phase refl)
    where
      go : (p : Phase) → s.phase ≡ p → all_of (phase_tests p (with_scalers s c)) ≡ true
      go Idle e = all_of_lem (phase_tests Idle s) (state_tests s Idle ok e)
      go Block e = all_of_lem (phase_tests Block s) (state_tests s Block ok e)
      go Event e = all_of_lem (phase_tests Event s) (state_tests s Event ok e)
