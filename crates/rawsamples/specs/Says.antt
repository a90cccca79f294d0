-- What is promised of a raw item's samples and of the lent array. Assumes nothing.
use Rattle.std.specs.Prelude.{ℕ, ◌≡◌, cond, List, ◌++◌, leb, length, drop}

-- so many are told; they stand in front and the rest is as it was, or, where they have no room, all is as it was
pub record SamplesSay (all out : List ℕ) (r : ℕ) (out' : List ℕ) : Type 0 where
  pub count : r ≡ length all
  pub array : out' ≡ cond (leb (length all) (length out)) (all ++ drop (length all) out) out
