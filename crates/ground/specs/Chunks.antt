-- The chunks of a list. Assumes nothing.
use Rattle.std.specs.Prelude.{ℕ, zero, suc, List, [], ◌∷◌, take, drop}

-- `count` chunks of n elements, one behind the other
unfoldable pub chunks : {A : Type 0} → ℕ → ℕ → List A → List (List A)
chunks zero n l = []
chunks (suc count) n l = take n l ∷ chunks count n (drop n l)
