-- `pulse::fits_in` meets its contract: the code's `&` is the definition's `all_of`.
use Rattle.limits.proofs.LimitsLaws.{most_samples_lem}
use Rattle.pulse.specs.Pulse.{fits_in}
use Rattle.pulse.proofs.fits_in.Goals as goal

pub returns : goal.returns
unfolding fits_in
returns c = rw most_samples_lem
