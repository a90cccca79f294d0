-- The calls as C makes them: settings and a state are numbers that the host lends. Assumes nothing.
use Rattle.std.specs.Prelude.{ℕ, ◌+◌, ◌*◌, ◌^◌, ◌≡◌, Bool, true, cond, List, eqb, length, set, replicate}
use Rattle.ground.specs.Splice.{splice}
use Rattle.refusals.specs.Refusal.{bad_array, if_accepted, or_else}
use Rattle.scalers.specs.Scalers.{nothing_counted}
use Rattle.state.specs.declared.State.{State}
use Rattle.state.specs.State.{idle, with_block, with_event, with_mark, with_closed}
use Rattle.places.specs.Places.{state_count}
use Rattle.numbers.specs.Numbers.{settings_from, state_from, numbers_of}
use Rattle.numbers.specs.On.{on_state, on_settings}
use Rattle.items.specs.Items.{words_of}
use Rattle.writer.specs.Calls.{row_start}
use Rattle.refusing.specs.Tables.{set_up_number, open_block_number, open_event_number, post_number, closing_items, close_number, finish_number}
use Rattle.block.specs.Block.{block_items, end_items}

-- ---- the calls; `r` is the number that C gets, `n` the state's numbers, `n'` those after the call

-- the states that opening a block, posting and closing give
abbrev pub block_opened : State → ℕ → ℕ → State
block_opened s block events = with_block s block events (s.words + length (block_items s.settings block events))

abbrev pub posted : State → ℕ → State
posted s c = with_mark s (set s.posted c true)

abbrev pub event_closed : State → Bool → List ℕ → State
event_closed s asked store = with_closed s (s.words + length (closing_items s asked store))

-- numbers that are not as many as a state's stay; a refused call leaves zeros, so that no old state is taken for the new one
pub record SetUpFace (settings n : List ℕ) (r : ℕ) (n' : List ℕ) : Type 0 where
  pub number : r ≡ or_else (on_settings settings (set_up_number (settings_from settings))) (cond (eqb (length n) state_count) 0 bad_array)
  pub numbers : n' ≡ cond (eqb (length n) state_count) (if_accepted r (numbers_of (idle (settings_from settings) nothing_counted)) (replicate state_count 0)) n

pub record OpenBlockFace (n words : List ℕ) (block events r : ℕ) (n' words' : List ℕ) : Type 0 where
  pub number : r ≡ on_state n (open_block_number (state_from n) (length words) block events)
  pub numbers : n' ≡ if_accepted r (numbers_of (block_opened (state_from n) block events)) n
  pub buffer : words' ≡ if_accepted r (splice words (state_from n).words (words_of (block_items (state_from n).settings block events))) words

pub record OpenEventFace (n : List ℕ) (event time r : ℕ) (n' : List ℕ) : Type 0 where
  pub number : r ≡ on_state n (open_event_number (state_from n) event time)
  pub numbers : n' ≡ if_accepted r (numbers_of (with_event (state_from n) event time)) n

pub record PostFace (n store : List ℕ) (c : ℕ) (w : List ℕ) (r : ℕ) (n' store' : List ℕ) : Type 0 where
  pub number : r ≡ on_state n (post_number (state_from n) (length store) c w)
  pub numbers : n' ≡ if_accepted r (numbers_of (posted (state_from n) c)) n
  pub rows : store' ≡ if_accepted r (splice store (row_start (state_from n) c) w) store

-- `asked`: the event ends with its scalers
pub record CloseFace (n store words : List ℕ) (asked : Bool) (r : ℕ) (n' words' : List ℕ) : Type 0 where
  pub number : r ≡ on_state n (close_number (state_from n) asked store (length words))
  pub numbers : n' ≡ if_accepted r (numbers_of (event_closed (state_from n) asked store)) n
  pub buffer : words' ≡ if_accepted r (splice words (state_from n).words (words_of (closing_items (state_from n) asked store))) words

-- the number of a finish
abbrev pub finish_on : List ℕ → ℕ → ℕ
finish_on n room = on_state n (finish_number (state_from n) room)

-- the answer: the refusal times 2^32, or the block's length in words
abbrev pub in_high : ℕ → ℕ → ℕ
in_high number size = if_accepted number size (number * 2 ^ 32)

pub record FinishFace (n words : List ℕ) (r : ℕ) (n' words' : List ℕ) : Type 0 where
  pub number : r ≡ in_high (finish_on n (length words)) ((state_from n).words + length (end_items (state_from n).settings (state_from n).words))
  pub numbers : n' ≡ if_accepted (finish_on n (length words)) (numbers_of (idle (state_from n).settings (state_from n).scalers)) n
  pub buffer : words'
      ≡ if_accepted (finish_on n (length words)) (splice words (state_from n).words (words_of (end_items (state_from n).settings (state_from n).words))) words
