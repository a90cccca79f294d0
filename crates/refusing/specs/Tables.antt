-- The refusal tables of the calls that write, each in the paper's order: document 01, "Order: 10, 7, 8, 4, 5, 6, 2, 3, 9." Assumes nothing.
use Rattle.std.specs.Prelude.{ℕ, ◌+◌, ◌*◌, Bool, false, not, ◌||◌, List, [], ◌∷◌, ◌++◌, length, get_or, take, eqb, ltb}
use Rattle.ground.specs.Tests.{first_of}
use Rattle.settings.specs.declared.Settings.{Settings}
use Rattle.settings.specs.Ranges.{settings_ok}
use Rattle.samples.specs.Sample.{samples_ok}
use Rattle.items.specs.declared.Item.{Item}
use Rattle.block.specs.Block.{block_items, end_items}
use Rattle.rows.specs.Rows.{rows_ok}
use Rattle.event.specs.Event.{event_items}
use Rattle.tail.specs.Tail.{tail_items}
use Rattle.state.specs.declared.State.{State}
use Rattle.state.specs.State.{block_ok, event_ok, state_ok, is_idle, is_block, is_event}

-- ---- set up

-- 1: "a setting out of range"
unfoldable pub set_up_number : Settings → ℕ
set_up_number s = first_of ((1, not (settings_ok s)) ∷ [])

-- ---- open a block

unfoldable pub open_block_table : State → ℕ → ℕ → ℕ → List (ℕ × Bool)
open_block_table s room number events =
    (10, not (state_ok s))
    ∷ (7, not (is_idle s.phase))
    ∷ (8, not (block_ok number events))
    ∷ (9, ltb room (s.words + length (block_items s.settings number events)))
    ∷ []

unfoldable pub open_block_number : State → ℕ → ℕ → ℕ → ℕ
open_block_number s room number events = first_of (open_block_table s room number events)

-- ---- open an event

-- "7 out of turn; opening an event beyond the block's count"
unfoldable pub open_event_table : State → ℕ → ℕ → List (ℕ × Bool)
open_event_table s number time =
    (10, not (state_ok s))
    ∷ (7, not (is_block s.phase) || not (ltb s.closed s.events))
    ∷ (8, not (event_ok number time))
    ∷ []

unfoldable pub open_event_number : State → ℕ → ℕ → ℕ
open_event_number s number time = first_of (open_event_table s number time)

-- ---- post a channel

unfoldable pub post_table : State → ℕ → ℕ → List ℕ → List (ℕ × Bool)
post_table s room c w =
    (10, not (state_ok s))
    ∷ (7, not (is_event s.phase))
    ∷ (4, ltb 15 c)
    ∷ (5, not (eqb (length w) s.settings.nw))
    ∷ (6, get_or s.posted c false)
    ∷ (2, ltb room (16 * s.settings.nw))
    ∷ (3, not (samples_ok w))
    ∷ []

unfoldable pub post_number : State → ℕ → ℕ → List ℕ → ℕ
post_number s room c w = first_of (post_table s room c w)

-- ---- close the event

-- what closing writes: "event header, time words, then words for posted channels only"; 02: "On request a closed event ends with type 12 .. and the latched words"
abbrev pub closing_items : State → Bool → List ℕ → List Item
closing_items s asked store = event_items s.settings s.event s.time s.posted store ++ tail_items asked s.scalers.latched

unfoldable pub close_table : State → Bool → List ℕ → ℕ → List (ℕ × Bool)
close_table s asked store room =
    (10, not (state_ok s))
    ∷ (7, not (is_event s.phase))
    ∷ (2, ltb (length store) (16 * s.settings.nw))
    ∷ (3, not (rows_ok s.settings.nw store 0 s.posted))
    ∷ (9, ltb room (s.words + length (closing_items s asked store)))
    ∷ []

unfoldable pub close_number : State → Bool → List ℕ → ℕ → ℕ
close_number s asked store room = first_of (close_table s asked store room)

-- all rows of it but the last, the room: what a close asks before it writes
unfoldable pub before_room : State → List ℕ → ℕ
before_room s store = first_of (take 4 (close_table s false store 0))

-- ---- finish the block

-- "7 out of turn; .. finishing before it"
unfoldable pub finish_table : State → ℕ → List (ℕ × Bool)
finish_table s room =
    (10, not (state_ok s))
    ∷ (7, not (is_block s.phase) || not (eqb s.closed s.events))
    ∷ (9, ltb room (s.words + length (end_items s.settings s.words)))
    ∷ []

unfoldable pub finish_number : State → ℕ → ℕ
finish_number s room = first_of (finish_table s room)

-- a proof that computes opens this file and what it leans on by one name
unfoldable pub all_open : Unit {0}
unfolding set_up_number open_block_table open_block_number open_event_table open_event_number post_table post_number close_table close_number before_room finish_table finish_number Rattle.ground.specs.Tests.all_open Rattle.settings.specs.Ranges.all_open Rattle.samples.specs.Sample.all_open Rattle.block.specs.Block.all_open Rattle.rows.specs.Rows.all_open Rattle.event.specs.Event.all_open Rattle.tail.specs.Tail.all_open Rattle.state.specs.State.all_open
all_open = tt
