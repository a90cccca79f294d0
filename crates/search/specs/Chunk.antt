-- The search by chunks; no public contract cites it. Assumes nothing.
use Rattle.std.specs.Prelude.{ℕ, ◌≤◌, ◌≡◌, Bool, List, All}
use Rattle.ground.specs.Search.{least}
use Rattle.samples.specs.Sample.{amp}

-- no sample of the chunk is over
abbrev pub NoneOver : ℕ → List ℕ → Type 0
NoneOver t chunk = All (λ (x : ℕ). amp x ≤ t) chunk

-- the search after s may go on after r: its answer is the same
pub record Passed (p : ℕ → Bool) (s e r : ℕ) : Type 0 where
  pub from : s ≤ r
  pub to : r ≤ e
  pub same : least p s e ≡ least p r e
