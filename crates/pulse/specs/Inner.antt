-- What private functions of the pulse's writer ask; no public contract cites it. Assumes nothing.
use Rattle.std.specs.Prelude.{ℕ, ◌≤◌, Bool, cond, List, [], ◌∷◌}
use Rattle.limits.specs.Limits.{most_samples}
use Rattle.finder.specs.declared.Pulse.{Pulse}

-- the pulse's numbers are of a window of n samples
pub record Fitting (n : ℕ) (p : Pulse) : Type 0 where
  pub tc : p.tc ≤ n
  pub from : 1 ≤ p.first
  pub some : p.first ≤ p.last
  pub to : p.last ≤ n
  pub coarse : p.time.coarse ≤ n
  pub short : n ≤ most_samples

-- the word where it is wanted
unfoldable pub word_if : Bool → ℕ → List ℕ
word_if on word = cond on (word ∷ []) []
