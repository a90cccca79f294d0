-- Closing an event: what the call answers, writes and leaves. Document 01, "One event, one store". Assumes nothing.
use Rattle.std.specs.Prelude.{ℕ, ◌+◌, ◌≡◌, Bool, List, length}
use Rattle.ground.specs.Splice.{splice}
use Rattle.refusals.specs.Refusal.{told, if_accepted}
use Rattle.items.specs.Items.{words_of}
use Rattle.state.specs.declared.State.{State}
use Rattle.state.specs.State.{with_closed}
use Rattle.refusing.specs.Tables.{closing_items, close_number}
use Rattle.writer.specs.Answer.{Answer}

-- "after the words already there; the rest of the buffer stays"; `asked`: its scalers were asked for
pub record CloseSays (s : State) (store words : List ℕ) (asked : Bool) (r : Answer) (words' : List ℕ) : Type 0 where
  pub refusal : told r.refusal ≡ close_number s asked store (length words)
  pub state : r.state ≡ if_accepted (close_number s asked store (length words)) (with_closed s (s.words + length (closing_items s asked store))) s
  pub buffer : words' ≡ if_accepted (close_number s asked store (length words)) (splice words s.words (words_of (closing_items s asked store))) words
