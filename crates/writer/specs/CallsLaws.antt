-- What is left where a call accepts and where it refuses, and where an accepted post's row and a writer's next place lie. Assumes nothing.
use Rattle.std.specs.Prelude.{ℕ, ◌+◌, ◌*◌, ◌≤◌, ◌≡◌, List, length}
use Rattle.std.proofs.Common.{ap, ◌∙◌, arith, ne_eqb}
use Rattle.ground.specs.Splice.{Written}
use Rattle.items.specs.Items.{words_of}
use Rattle.items.specs.declared.Item.{Item}
use Rattle.items.specs.ItemsLaws.{length_words}
use Rattle.rows.specs.RowsLaws.{row_end}
use Rattle.state.specs.declared.State.{State}
use Rattle.refusing.specs.TablesLaws.{PostAccepted}
use Rattle.refusals.specs.Refusal.{told, if_accepted}
use Rattle.writer.specs.Calls.{row_start}

pub done : {A : Type 0} {n : ℕ} (new old : A) → n ≡ 0 → if_accepted n new old ≡ new
done new old e = rw e

pub refused : {A : Type 0} (n : ℕ) (new old : A) → (n ≡ 0 → ⊥) → if_accepted n new old ≡ old
refused n new old e = rw (ne_eqb n 0 e)

-- an accepted post's row lies in the store
pub row_fits : (s : State) (room c : ℕ) (w : List ℕ) → PostAccepted s room c w → row_start s c + s.settings.nw ≤ room
row_fits s room c w a = omega (arith, row_end c 16 s.settings.nw (omega (arith, a.channel)), a.wide)

-- told by the window's length
pub window_fits : (s : State) (room c : ℕ) (w : List ℕ) → PostAccepted s room c w → c * length w + length w ≤ room
window_fits s room c w a = rw a.whole (row_fits s room c w a)

-- the place behind written records is as many words on
pub next_place : {buf buf' : List ℕ} {at next : ℕ} (xs : List Item) → Written buf at (words_of xs) next buf' → next ≡ at + length xs
next_place {at = at} xs w = w.place ∙ ap (λ (n : ℕ). at + n) (length_words xs)
