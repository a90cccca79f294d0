-- What an event ends with on request: document 02, "Scaler words". Assumes nothing.
use Rattle.std.specs.Prelude.{ℕ, Bool, cond, List, [], ◌∷◌, map}
use Rattle.items.specs.declared.Item.{Item}
use Rattle.items.specs.declared.Item.TheVariants as I

-- "the latched words: channels 0 to 15, timer, triggers. They carry no tag"
abbrev pub word_items : List ℕ → List Item
word_items latched = map (λ (n : ℕ). I.Scaler (record { value = n })) latched

-- "type 12 (bits 26-6 zero, 5-0 = 18) and the latched words"
unfoldable pub scaler_items : List ℕ → List Item
scaler_items latched = I.Scalers (record { count = 18 }) ∷ word_items latched

-- "On request a closed event ends with" them
unfoldable pub tail_items : Bool → List ℕ → List Item
tail_items asked latched = cond asked (scaler_items latched) []

-- a proof that computes opens this file by one name
unfoldable pub all_open : Unit {0}
unfolding scaler_items tail_items
all_open = tt
