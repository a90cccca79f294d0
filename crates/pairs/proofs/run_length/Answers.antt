-- `pairs::run_length` meets its contract. Assumes nothing.
use Rattle.std.proofs.Common.{arith}
use Rattle.limits.proofs.LimitsLaws.{pairs_is}
use Rattle.pairs.proofs.run_length.Goals as goal

pub returns : goal.returns
returns c = omega (arith, pairs_is c.args.samples)
