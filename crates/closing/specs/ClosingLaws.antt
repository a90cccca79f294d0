-- What a close knows once all but the room is asked: its event's words are written all or not at all, and the place tells. Assumes nothing.
use Rattle.std.specs.Prelude.{ℕ, ◌+◌, ◌-◌, ◌^◌, ◌<◌, ◌≡◌, Bool, true, ◌&&◌, List, leb, length}
use native.Mathlib.Omega.{arith}
use Rattle.std.proofs.Common.{le-leb}
use Rattle.ground.specs.Splice.{Written, WrittenIf}
use Rattle.ground.specs.ResultLaws.{one_result}
use Rattle.ground.specs.WritingLaws.{written, moved, stayed, unwritten}
use Rattle.items.specs.Items.{words_of}
use Rattle.items.specs.ItemsLaws.{length_words}
use Rattle.rows.specs.Rows.{lent_ok}
use Rattle.event.specs.Event.{event_items}
use Rattle.rows.specs.Inner.{Lent}
use Rattle.rows.specs.RowsLaws.{lent_enough}
use Rattle.state.specs.declared.State.{State}
use Rattle.writer.specs.Answer.{Answer}
use Rattle.writer.specs.UniqueLaws.{one_answer}
use Rattle.closing.specs.Closing.{CloseSays}
use Rattle.state.specs.StateLaws.{EventSays, event_says, state_settings}
use Rattle.refusing.specs.Tables.{closing_items, close_number, before_room}
use Rattle.refusing.specs.TablesLaws.{CloseAccepted, close_accepted}
use Rattle.refusing.specs.RoomLaws.{close_fits, close_short}

module _ (s : State) (wanted : Bool) (store : List ℕ) (asked : before_room s store ≡ 0) where
  known : CloseAccepted s wanted store (s.words + length (closing_items s wanted store))
  known = close_accepted s wanted store _ (close_fits s wanted store _ asked (omega arith))

  pub in_event : EventSays s
  in_event = event_says s known.state known.turn

  some : 0 < length (words_of (closing_items s wanted store))
  unfolding event_items
  some = omega arith

  module _ (marks : length s.posted ≡ 16) {words words' : List ℕ} {next : ℕ}
      (w : WrittenIf (lent_ok s.settings s.posted store && leb s.time (2 ^ 48 - 1)) words s.words (words_of (closing_items s wanted store)) next words') where
    good : lent_ok s.settings s.posted store && leb s.time (2 ^ 48 - 1) ≡ true
    good =
        let lent : Lent s.settings s.posted store = record { settings = state_settings s known.state; marks = omega (arith, marks); rows = known.wide } in
        rw (lent_enough s.settings s.posted store lent, le-leb s.time (2 ^ 48 - 1) in_event.time)

    -- the place stayed: there was no room, and the words are as they were
    pub no_room : next ≡ s.words → (close_number s wanted store (length words) ≡ 9) × (words' ≡ words)
    no_room e =
        let short = stayed good w some e in
        (close_short s wanted store (length words) asked (rw (length_words (closing_items s wanted store)) at short), unwritten good w short)

    -- it moved: there was
    pub had_room : (next ≡ s.words → ⊥) → (close_number s wanted store (length words) ≡ 0) × Written words s.words (words_of (closing_items s wanted store)) next words'
    had_room e =
        let room = moved good w e in
        (close_fits s wanted store (length words) asked (rw (length_words (closing_items s wanted store)) at room), written good room w)

-- two results that the statement allows are equal
pub close_unique : (s : State) (store words : List ℕ) (asked : Bool) (a b : Answer) (x y : List ℕ)
    → CloseSays s store words asked a x → CloseSays s store words asked b y → (a ≡ b) × (x ≡ y)
close_unique s store words asked a b x y p q =
    (one_answer a b p.refusal q.refusal p.state q.state, one_result p.buffer q.buffer)
