-- The sum over a stretch of samples: document 01, "Finding pulses". Assumes nothing.
use Rattle.std.specs.Prelude.{ℕ, ◌-◌, List}
use Rattle.ground.specs.Search.{sum_over}
use Rattle.search.specs.Search.{amp_at}

-- "Integral: sum of V over the set, no pedestal taken off."
unfoldable pub integral : List ℕ → ℕ → ℕ → ℕ
integral w first last = sum_over (amp_at w) (first - 1) last

-- a proof that computes opens this file and what it leans on by one name
unfoldable pub all_open : Unit {0}
unfolding integral Rattle.ground.specs.Search.all_open Rattle.search.specs.Search.all_open
all_open = tt
