-- `samples::amplitude` meets its contract. Assumes nothing.
use Rattle.std.proofs.Common.{rules}
use Rattle.samples.specs.Sample.{amp}
use Rattle.samples.proofs.amplitude.Goals as goal

pub returns : goal.returns
unfolding amp
returns c = search rules
