-- Every accepted call keeps the state in its ranges. Assumes nothing.
use Rattle.std.specs.Prelude.{ℕ, ◌+◌, ◌≤◌, ◌≡◌, Bool, true, List, length, set}
use Rattle.std.proofs.Common.{arith, length-append}
use Rattle.limits.specs.Limits.{most_event}
use Rattle.settings.specs.declared.Settings.{Settings}
use Rattle.event.specs.Event.{event_items}
use Rattle.event.specs.Inner.{event_length}
use Rattle.event.proofs.EventLaws.{length_event, event_least, event_most}
use Rattle.tail.specs.Tail.{tail_items}
use Rattle.tail.specs.TailLaws.{tail_le}
use Rattle.scalers.specs.Scalers.{nothing_counted}
use Rattle.state.specs.declared.State.{State}
use Rattle.state.specs.State.{state_ok, idle, with_block, with_event, with_mark, with_closed}
use Rattle.state.specs.StateLaws.{state_settings, state_scalers, none_counted, idle_kept, block_kept, event_kept, mark_kept, close_kept}
use Rattle.block.specs.Block.{block_items}
use Rattle.block.specs.BlockLaws.{block_length}
use Rattle.refusing.specs.Tables.{set_up_number, open_block_number, open_event_number, post_number, closing_items, close_number, finish_number}
use Rattle.refusing.specs.TablesLaws.{set_up_accepted, open_block_accepted, open_event_accepted, post_accepted, close_accepted, finish_accepted}

pub set_up_kept : (s : Settings) → set_up_number s ≡ 0 → state_ok (idle s nothing_counted) ≡ true
set_up_kept s e = idle_kept s nothing_counted (set_up_accepted s e) none_counted

pub finish_kept : (s : State) (room : ℕ) → finish_number s room ≡ 0 → state_ok (idle s.settings s.scalers) ≡ true
finish_kept s room e = let ok = (finish_accepted s room e).state in idle_kept s.settings s.scalers (state_settings s ok) (state_scalers s ok)

pub open_block_kept : (s : State) (room number events : ℕ) → open_block_number s room number events ≡ 0
    → state_ok (with_block s number events (s.words + length (block_items s.settings number events))) ≡ true
open_block_kept s room number events e =
    let a = open_block_accepted s room number events e in
    rw (block_length s.settings number events) (block_kept s a.state number events a.turn a.named)

pub open_event_kept : (s : State) (number time : ℕ) → open_event_number s number time ≡ 0 → state_ok (with_event s number time) ≡ true
open_event_kept s number time e =
    let a = open_event_accepted s number time e in
    event_kept s a.state number time a.turn a.to_come a.named

pub post_kept : (s : State) (room c : ℕ) (w : List ℕ) → post_number s room c w ≡ 0 → state_ok (with_mark s (set s.posted c true)) ≡ true
post_kept s room c w e =
    let a = post_accepted s room c w e in
    mark_kept s a.state (set s.posted c true) a.turn

-- the event's words, its scalers counted, are within an event's range
pub closing_kept : (s : State) (asked : Bool) (store : List ℕ) (room : ℕ) → length s.posted ≤ 16 → length s.scalers.latched ≡ 18 → close_number s asked store room ≡ 0
    → state_ok (with_closed s (s.words + length (closing_items s asked store))) ≡ true
closing_kept s asked store room h k e =
    let a = close_accepted s asked store room e in
    let ok = state_settings s a.state in
    let n = event_length s.settings s.posted store in
    let event = length_event s.settings s.event s.time s.posted store ok in
    let both = length-append (event_items s.settings s.event s.time s.posted store) (tail_items asked s.scalers.latched) in
    let least : 1 + s.settings.times ≤ length (closing_items s asked store) = omega (arith, both, event, event_least s.settings s.posted store) in
    let most : length (closing_items s asked store) ≤ most_event = omega (arith, both, event, tail_le asked s.scalers.latched k, event_most s.settings s.posted store ok h) in
    close_kept s a.state (length (closing_items s asked store)) a.turn least most
