-- `settings::in_range` meets its contract: the code's `&` is the definition's `all_of`. Assumes nothing.
use Rattle.limits.proofs.LimitsLaws.{most_samples_lem}
use Rattle.settings.specs.Ranges.{ranges, settings_ok}
use Rattle.settings.proofs.in_range.Goals as goal

pub returns : goal.returns
unfolding settings_ok ranges
returns c =
    rw (most_samples_lem, c.thresholds_ok.ensures)
