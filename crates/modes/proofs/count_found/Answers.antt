-- `modes::count_found` meets its contract: the count of what the finder gives.
use Rattle.std.proofs.Common.{arith, length}
use Rattle.limits.proofs.LimitsLaws.{most_raw_lem, most_pulse_lem}
use Rattle.pairs.specs.PairsLaws.{run_most}
use Rattle.finder.specs.FindLaws.{searched}
use Rattle.modes.specs.InnerLaws.{IsFound, is_found, channel_counted}
use Rattle.modes.proofs.count_found.Goals as goal
use Rattle.modes.proofs.count_found.Goals.{After-pulses_of-found}

-- what is known once the finder has answered
module _ (c : After-pulses_of-found) where
  found : IsFound c.args.common c.args.threshold c.args.row.now c.parts_of-parts.result c.pulses_of-found.result
  found = is_found c.args.common _ _ _ _ (searched _ _ _ c.requires.0) (rw c.limit_for-most.ensures at c.pulses_of-found.ensures)

pub pulses_length-requires : goal.pulses_length-requires
pulses_length-requires c = ((found (goal.at.pulses_length-requires c).After-pulses_of-found).inside, (searched _ _ _ c.requires.0).short)

pub overflow_add-result : goal.overflow_add-result
overflow_add-result c =
    omega (
      arith,
      most_raw_lem,
      most_pulse_lem,
      c.run_length_if.ensures,
      run_most c.parts_of-parts.result.window (length c.args.row.now) (searched _ _ _ c.requires.0).short,
      c.pulses_length.ensures.1,
    )

pub returns : goal.returns
returns c =
    channel_counted c.args.common _ _ _ _ _ _ c.requires.1 c.parts_of-parts.ensures (found (goal.at.returns c).After-pulses_of-found) c.run_length_if.ensures c.pulses_length.ensures.0
