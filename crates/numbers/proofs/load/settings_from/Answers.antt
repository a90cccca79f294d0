-- `numbers::load::settings_from` meets its contract. Assumes nothing.
use Rattle.std.proofs.Common.{arith}
use Rattle.places.specs.PlacesLaws.{settings_count_lem, thresholds-16}
use Rattle.numbers.specs.ScalersLaws.{thresholds_small}
use Rattle.numbers.specs.StoreLaws.{settings_loaded}
use Rattle.numbers.proofs.load.settings_from.Goals as goal

pub slice_bounds-row-end : goal.slice_bounds-row-end
slice_bounds-row-end c = omega (arith, settings_count_lem c.args.numbers.now c.requires)

pub row-thresholds-requires : goal.row-thresholds-requires
row-thresholds-requires c = (omega arith, (thresholds-16 c.args.numbers.now c.requires, thresholds_small c.args.numbers.now c.requires))

pub returns : goal.returns
returns c =
    settings_loaded c.args.numbers.now c.requires c.row-thresholds.ensures c.at32.ensures c.at.ensures c.at32-2.ensures c.at-2.ensures c.at-3.ensures c.at-4.ensures c.at32-3.ensures c.at-5.ensures c.at32-4.ensures c.at32-5.ensures
