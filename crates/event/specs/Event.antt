-- What one event writes: document 01, "One event, one store", as lists of records. Assumes nothing.
use Rattle.std.specs.Prelude.{ℕ, ◌+◌, ◌/◌, ◌%◌, ◌^◌, Bool, cond, List, [], ◌∷◌, ◌++◌, get_or, leb}
use Rattle.settings.specs.declared.Settings.{Settings}
use Rattle.rows.specs.Rows.{row}
use Rattle.items.specs.declared.Item.{Item}
use Rattle.items.specs.declared.Item.TheVariants as I
use Rattle.items.specs.Items.{item_if}
use Rattle.modes.specs.Channel.{common_of, channel_items}

-- "Trigger-time words 0, 1 or 2.": "time bits 26-24, .. time bits 23-0", and "time bits 47-24"
unfoldable pub time_items : ℕ → ℕ → List Item
time_items times time =
    item_if (leb 1 times) (I.Clock (record { middle = time / 2 ^ 24 % 2 ^ 3; low = time % 2 ^ 24 }))
    ++ item_if (leb 2 times) (I.ClockHigh (record { high = time / 2 ^ 24 }))

-- "then words for posted channels only", "channels rising", from channel c on
unfoldable pub channels_items : Settings → List ℕ → ℕ → List Bool → List Item
channels_items s store c [] = []
channels_items s store c (posted ∷ more) =
    cond posted (channel_items (common_of s) (get_or s.thresholds c 0) c (row s.nw c store)) [] ++ channels_items s store (c + 1) more

-- "Closing writes event header, time words, then words for posted channels only": the event's number and time, the marks, the store
unfoldable pub event_items : Settings → ℕ → ℕ → List Bool → List ℕ → List Item
event_items s number time posted store =
    I.Event (record { slot = s.slot; number = number }) ∷ (time_items s.times time ++ channels_items s store 0 posted)

-- a proof that computes opens this file and what it leans on by one name
unfoldable pub all_open : Unit {0}
unfolding time_items channels_items event_items Rattle.rows.specs.Rows.all_open Rattle.items.specs.Items.all_open Rattle.modes.specs.Channel.all_open
all_open = tt
