-- `finder::can_search` meets its contract. Assumes nothing.
use Rattle.limits.proofs.LimitsLaws.{most_samples_lem}
use Rattle.finder.specs.Find.{searchable}
use Rattle.finder.proofs.can_search.Goals as goal

pub returns : goal.returns
unfolding searchable
returns c = rw most_samples_lem
