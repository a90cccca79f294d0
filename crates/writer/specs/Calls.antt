-- The calls but for the close: what each answers, writes and leaves. Document 01, "One event, one store". Assumes nothing.
use Rattle.std.specs.Prelude.{ℕ, ◌+◌, ◌*◌, ◌≡◌, true, List, length, set}
use Rattle.ground.specs.Splice.{splice}
use Rattle.settings.specs.declared.Settings.{Settings}
use Rattle.refusals.specs.Refusal.{told, if_accepted}
use Rattle.items.specs.Items.{words_of}
use Rattle.block.specs.Block.{block_items, end_items}
use Rattle.scalers.specs.Scalers.{nothing_counted}
use Rattle.state.specs.declared.State.{State}
use Rattle.state.specs.State.{idle, blank, with_block, with_event, with_mark}
use Rattle.refusing.specs.Tables.{set_up_number, open_block_number, open_event_number, post_number, finish_number}
use Rattle.writer.specs.Answer.{Answer}
use Rattle.writer.specs.Answer.{Finished}

-- ---- set up

-- "Set up can give only 1, and returns no state."
pub record SetUpSays (s : Settings) (r : Answer) : Type 0 where
  pub refusal : told r.refusal ≡ set_up_number s
  pub state : r.state ≡ if_accepted (set_up_number s) (idle s nothing_counted) blank

-- ---- open a block

pub record OpenBlockSays (s : State) (words : List ℕ) (number events : ℕ) (r : Answer) (words' : List ℕ) : Type 0 where
  pub refusal : told r.refusal ≡ open_block_number s (length words) number events
  pub state : r.state
      ≡ if_accepted (open_block_number s (length words) number events)
      (with_block s number events (s.words + length (block_items s.settings number events)))
      s
  pub buffer : words'
      ≡ if_accepted (open_block_number s (length words) number events) (splice words s.words (words_of (block_items s.settings number events))) words

-- ---- open an event

-- "opening an event writes nothing and clears no row"
pub record OpenEventSays (s : State) (number time : ℕ) (r : Answer) : Type 0 where
  pub refusal : told r.refusal ≡ open_event_number s number time
  pub state : r.state ≡ if_accepted (open_event_number s number time) (with_event s number time) s

-- ---- post a channel

-- "The host lends the store, 16 rows of NW samples, row c from place c x NW."
abbrev pub row_start : State → ℕ → ℕ
row_start s c = c * s.settings.nw

-- "A post copies the window into the middle of the lent store, into that row, and nowhere else."
pub record PostSays (s : State) (store : List ℕ) (c : ℕ) (w : List ℕ) (r : Answer) (store' : List ℕ) : Type 0 where
  pub refusal : told r.refusal ≡ post_number s (length store) c w
  pub state : r.state ≡ if_accepted (post_number s (length store) c w) (with_mark s (set s.posted c true)) s
  pub rows : store' ≡ if_accepted (post_number s (length store) c w) (splice store (row_start s c) w) store

-- ---- finish the block

-- "Finishing writes the trailer and the fewest fillers to the multiple, returns to idle and answers the block's length in words."; 02: what is
-- counted is "kept through idle"
pub record FinishSays (s : State) (words : List ℕ) (r : Finished) (words' : List ℕ) : Type 0 where
  pub refusal : told r.refusal ≡ finish_number s (length words)
  pub state : r.state ≡ if_accepted (finish_number s (length words)) (idle s.settings s.scalers) s
  pub size : r.length ≡ if_accepted (finish_number s (length words)) (s.words + length (end_items s.settings s.words)) 0
  pub buffer : words'
      ≡ if_accepted (finish_number s (length words)) (splice words s.words (words_of (end_items s.settings s.words))) words

-- a proof that computes opens this file and what it leans on by one name
unfoldable pub all_open : Unit {0}
unfolding Rattle.ground.specs.Splice.all_open Rattle.items.specs.Items.all_open Rattle.block.specs.Block.all_open Rattle.state.specs.State.all_open Rattle.refusing.specs.Tables.all_open
all_open = tt
