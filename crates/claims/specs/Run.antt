-- A run of calls since a block was opened: every call from the state that the last one gave and with the same buffer, any store at each, refused calls
-- and calls that count between. Beside it stand the records written so far. Assumes nothing.
use Rattle.std.specs.Prelude.{ℕ, ◌≡◌, Bool, List, ◌++◌, length}
use Rattle.refusals.specs.Refusal.{told}
use Rattle.items.specs.declared.Item.{Item}
use Rattle.state.specs.declared.State.{State}
use Rattle.writer.specs.Answer.{Answer}
use Rattle.writer.specs.Answer.{Finished}
use Rattle.block.specs.Block.{block_items}
use Rattle.writer.specs.Calls.{OpenBlockSays, OpenEventSays, PostSays, FinishSays}
use Rattle.closing.specs.Closing.{CloseSays}
use Rattle.refusing.specs.Tables.{closing_items}
use Rattle.numbers.specs.ScalersLaws.{Sized}
use Rattle.owners.specs.Order.{Aside, AsideSays}

pub data Run : State → List ℕ → List Item → Type 0 where
  -- an accepted opening, from a state whose thresholds and counts are as many, and of as many bits, as their types have
  opened : (s : State) (words : List ℕ) (number events : ℕ) (r : Answer) (words' : List ℕ) → length s.settings.thresholds ≡ 16 → Sized s.scalers → OpenBlockSays s words number events r words' → told r.refusal ≡ 0
      → Run r.state words' (block_items s.settings number events)
  -- an event opened, a channel posted; or refused
  begun : {s : State} {words : List ℕ} {xs : List Item} → Run s words xs → (number time : ℕ) (r : Answer) → OpenEventSays s number time r → Run r.state words xs
  posted : {s : State} {words : List ℕ} {xs : List Item} → Run s words xs → (store : List ℕ) (c : ℕ) (w : List ℕ) (r : Answer) (store' : List ℕ) → PostSays s store c w r store'
      → Run r.state words xs
  -- frames counted, a latch or a reset; or refused
  counted : {s : State} {words : List ℕ} {xs : List Item} → Run s words xs → (k : Aside) (r : Answer) → AsideSays k s r → Run r.state words xs
  -- an accepted close
  closed : {s : State} {words : List ℕ} {xs : List Item} → Run s words xs → (store : List ℕ) (asked : Bool) (r : Answer) (words' : List ℕ) → CloseSays s store words asked r words'
      → told r.refusal ≡ 0 → Run r.state words' (xs ++ closing_items s asked store)
  -- a refused close, opening or finish
  not_closed : {s : State} {words : List ℕ} {xs : List Item} → Run s words xs → (store : List ℕ) (asked : Bool) (r : Answer) (words' : List ℕ) → CloseSays s store words asked r words'
      → (told r.refusal ≡ 0 → ⊥) → Run r.state words' xs
  not_opened : {s : State} {words : List ℕ} {xs : List Item} → Run s words xs → (number events : ℕ) (r : Answer) (words' : List ℕ) → OpenBlockSays s words number events r words'
      → (told r.refusal ≡ 0 → ⊥) → Run r.state words' xs
  not_finished : {s : State} {words : List ℕ} {xs : List Item} → Run s words xs → (r : Finished) (words' : List ℕ) → FinishSays s words r words'
      → (told r.refusal ≡ 0 → ⊥) → Run r.state words' xs
