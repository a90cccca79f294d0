-- `pulse::fitting_length` meets its contract.
use Rattle.std.proofs.Common.{rules}
use Rattle.limits.proofs.LimitsLaws.{most_samples_lem}
use Rattle.pulse.specs.Pulse.{pulse_length}
use Rattle.pulse.proofs.fitting_length.Goals as goal

pub returns : goal.returns
unfolding pulse_length
returns c = c.set_length.ensures

pub overflow_add-pulse : goal.overflow_add-pulse
overflow_add-pulse c = search (rules, most_samples_lem)
