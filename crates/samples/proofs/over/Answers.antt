-- `samples::over` meets its contract. Assumes nothing.
use Rattle.samples.specs.Sample.{is_over}
use Rattle.samples.proofs.over.Goals as goal

pub returns : goal.returns
unfolding is_over
returns c = rw c.amplitude.ensures.0
