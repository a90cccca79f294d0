-- Samples two by two: document 01, "The words". Assumes nothing.
use Rattle.std.specs.Prelude.{ℕ, List, [], ◌∷◌}
use Rattle.items.specs.declared.Item.{Item}
use Rattle.items.specs.declared.Item.TheVariants as I

-- "28-16 first sample, .. 12-0 second. An odd count sets bit 13 in the last pair with sample 0."
abbrev pub pair_items : List ℕ → List Item
pair_items [] = []
pair_items (x ∷ []) = I.Pair (record { nofirst = 0; first = x; nosecond = 1; second = 0 }) ∷ []
pair_items (x ∷ y ∷ r) = I.Pair (record { nofirst = 0; first = x; nosecond = 0; second = y }) ∷ pair_items r
