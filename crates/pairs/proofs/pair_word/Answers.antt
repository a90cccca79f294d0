-- `pairs::pair_word` meets its contract.
use Rattle.std.proofs.Common.{arith}
use Rattle.pairs.specs.PairsLaws.{pair_cut}
use Rattle.pairs.proofs.pair_word.Goals as goal

pub returns : goal.returns
returns c = pair_cut c.args.first c.args.second (omega (arith, c.ranges.second.fits))
