-- `hostfind::pulse_numbers` meets its contract. Assumes nothing.
use Rattle.hostfind.specs.Found.{pulse_numbers}
use Rattle.hostfind.proofs.pulse_numbers.Goals as goal

pub returns : goal.returns
unfolding pulse_numbers
returns c = cc
