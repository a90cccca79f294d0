-- What an accepted call has, by name, of each table. Assumes nothing.
use Rattle.std.specs.Prelude.{ℕ, ◌+◌, ◌*◌, ◌≤◌, ◌<◌, ◌≡◌, refl, Bool, true, false, not, ◌&&◌, ◌||◌, cond, List, ◌∷◌, length, get_or}
use Rattle.std.proofs.Common.{ltb-true, ltb-false, eqb-true}
use Rattle.std.proofs.lemmas.Bool.{not-false}
use Rattle.ground.specs.Tests.{FirstIs, this_row, later_row}
use Rattle.ground.specs.TestsLaws.{or_none, none}
use Rattle.settings.specs.declared.Settings.{Settings}
use Rattle.settings.specs.Ranges.{settings_ok}
use Rattle.samples.specs.Sample.{samples_ok}
use Rattle.rows.specs.Rows.{rows_ok}
use Rattle.block.specs.Block.{block_items, end_items}
use Rattle.state.specs.declared.Phase.{Phase}
use Rattle.state.specs.declared.State.{State}
use Rattle.state.specs.State.{block_ok, event_ok, phase_ok, common_ok, state_ok, is_idle, is_block, is_event}
use Rattle.state.specs.StateLaws.{state_in}
use Rattle.refusing.specs.Tables.{set_up_number, open_block_table, open_block_number, open_event_table, open_event_number, post_table, post_number, closing_items, close_table, close_number, finish_table, finish_number}

-- ---- the first two rows of a table on a state

-- in its phase the state's ranges are asked as those of any phase and of this one
pub ranges_asked : (s : State) (p : Phase) → s.phase ≡ p → {a b : Bool} → a ≡ common_ok s → b ≡ phase_ok p s → not (state_ok s) ≡ (not a || not b)
ranges_asked s p e {a = a} {b = b} f g = rw (state_in s p e, ← f, ← g) (go a)
  where
    go : (x : Bool) → not (x && b) ≡ (not x || not b)
    go true = refl
    go false = refl

-- out of turn
pub turn_missed : (b : Bool) {t : Bool} {rs : List (ℕ × Bool)} → t ≡ true → FirstIs ((10, not b) ∷ (7, t) ∷ rs) (cond b 7 10)
turn_missed true e = later_row _ refl (this_row _ _ e)
turn_missed false e = this_row _ _ refl

-- ---- set up

pub set_up_accepted : (s : Settings) → set_up_number s ≡ 0 → settings_ok s ≡ true
unfolding set_up_number
set_up_accepted s e = not-false _ (none _ refl e).0

-- ---- open a block

pub record OpenBlockAccepted (s : State) (room number events : ℕ) : Type 0 where
  pub state : state_ok s ≡ true
  pub turn : is_idle s.phase ≡ true
  pub named : block_ok number events ≡ true
  pub fit : s.words + length (block_items s.settings number events) ≤ room

pub open_block_accepted : (s : State) (room number events : ℕ) → open_block_number s room number events ≡ 0 → OpenBlockAccepted s room number events
unfolding open_block_number open_block_table
open_block_accepted s room number events e =
    let o = none (open_block_table s room number events) refl e in
    record {
      state = not-false _ o.0;
      turn = not-false _ o.1.0;
      named = not-false _ o.1.1.0;
      fit = ltb-false room _ o.1.1.1.0;
    }

-- ---- open an event

pub record OpenEventAccepted (s : State) (number time : ℕ) : Type 0 where
  pub state : state_ok s ≡ true
  pub turn : is_block s.phase ≡ true
  pub to_come : s.closed < s.events
  pub named : event_ok number time ≡ true

pub open_event_accepted : (s : State) (number time : ℕ) → open_event_number s number time ≡ 0 → OpenEventAccepted s number time
unfolding open_event_number open_event_table
open_event_accepted s number time e =
    let o = none (open_event_table s number time) refl e in
    let turn = or_none _ _ o.1.0 in
    record {
      state = not-false _ o.0;
      turn = not-false _ turn.0;
      to_come = ltb-true _ _ (not-false _ turn.1);
      named = not-false _ o.1.1.0;
    }

-- ---- post a channel

pub record PostAccepted (s : State) (room c : ℕ) (w : List ℕ) : Type 0 where
  pub state : state_ok s ≡ true
  pub turn : is_event s.phase ≡ true
  pub channel : c ≤ 15
  pub whole : length w ≡ s.settings.nw
  pub fresh : get_or s.posted c false ≡ false
  pub wide : 16 * s.settings.nw ≤ room
  pub samples : samples_ok w ≡ true

pub post_accepted : (s : State) (room c : ℕ) (w : List ℕ) → post_number s room c w ≡ 0 → PostAccepted s room c w
unfolding post_number post_table
post_accepted s room c w e =
    let o = none (post_table s room c w) refl e in
    let channel = o.1.1 in
    let fresh = channel.1.1 in
    record {
      state = not-false _ o.0;
      turn = not-false _ o.1.0;
      channel = ltb-false 15 c channel.0;
      whole = eqb-true _ _ (not-false _ channel.1.0);
      fresh = fresh.0;
      wide = ltb-false room _ fresh.1.0;
      samples = not-false _ fresh.1.1.0;
    }

-- ---- close the event

pub record CloseAccepted (s : State) (asked : Bool) (store : List ℕ) (room : ℕ) : Type 0 where
  pub state : state_ok s ≡ true
  pub turn : is_event s.phase ≡ true
  pub wide : 16 * s.settings.nw ≤ length store
  pub samples : rows_ok s.settings.nw store 0 s.posted ≡ true
  pub fit : s.words + length (closing_items s asked store) ≤ room

pub close_accepted : (s : State) (asked : Bool) (store : List ℕ) (room : ℕ) → close_number s asked store room ≡ 0 → CloseAccepted s asked store room
unfolding close_number close_table
close_accepted s asked store room e =
    let o = none (close_table s asked store room) refl e in
    let wide = o.1.1 in
    record {
      state = not-false _ o.0;
      turn = not-false _ o.1.0;
      wide = ltb-false _ _ wide.0;
      samples = not-false _ wide.1.0;
      fit = ltb-false room _ wide.1.1.0;
    }

-- ---- finish the block

pub record FinishAccepted (s : State) (room : ℕ) : Type 0 where
  pub state : state_ok s ≡ true
  pub turn : is_block s.phase ≡ true
  pub all : s.closed ≡ s.events
  pub fit : s.words + length (end_items s.settings s.words) ≤ room

pub finish_accepted : (s : State) (room : ℕ) → finish_number s room ≡ 0 → FinishAccepted s room
unfolding finish_number finish_table
finish_accepted s room e =
    let o = none (finish_table s room) refl e in
    let turn = or_none _ _ o.1.0 in
    record {
      state = not-false _ o.0;
      turn = not-false _ turn.0;
      all = eqb-true _ _ (not-false _ turn.1);
      fit = ltb-false room _ o.1.1.0;
    }
