-- What is asked of a TC; no public contract cites it. Assumes nothing.
use Rattle.std.specs.Prelude.{ℕ, ◌≤◌, ◌<◌, List, length}
use Rattle.search.specs.Search.{amp_at}

-- sample k is one of the window, and over
pub record IsOver (w : List ℕ) (t k : ℕ) : Type 0 where
  pub from : 1 ≤ k
  pub to : k ≤ length w
  pub higher : t < amp_at w k
