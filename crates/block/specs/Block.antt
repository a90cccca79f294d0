-- What a block has around its events: document 01, "One event, one store", as lists of records. Assumes nothing.
use Rattle.std.specs.Prelude.{ℕ, ◌+◌, ◌-◌, ◌%◌, List, ◌∷◌, replicate}
use Rattle.settings.specs.declared.Settings.{Settings}
use Rattle.items.specs.Items.{item_if}
use Rattle.items.specs.declared.Item.{Item}
use Rattle.items.specs.declared.Item.TheVariants as I

-- "Opening a block writes its header and any parameters word"
unfoldable pub block_items : Settings → ℕ → ℕ → List Item
block_items s number events =
    I.Block (record { slot = s.slot; number = number; events = events })
    ∷ item_if s.parameters (I.Parameters (record { pl = s.pl; nsb = s.nsb; nsa = s.nsa }))

-- "the fewest fillers to the multiple"
unfoldable pub fillers_to : ℕ → ℕ → ℕ
fillers_to multiple count = (multiple - count % multiple) % multiple

-- "1 trailer: .. words from header to trailer, both counted", then the fillers
unfoldable pub end_items : Settings → ℕ → List Item
end_items s words =
    I.Trailer (record { slot = s.slot; words = words + 1 })
    ∷ replicate (fillers_to s.multiple (words + 1)) (I.Filler (record { slot = s.slot }))

-- a proof that computes opens this file and what it leans on by one name
unfoldable pub all_open : Unit {0}
unfolding block_items fillers_to end_items Rattle.items.specs.Items.all_open
all_open = tt
