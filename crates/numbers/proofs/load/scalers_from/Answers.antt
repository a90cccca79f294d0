-- `numbers::load::scalers_from` meets its contract. Assumes nothing.
use Rattle.std.proofs.Common.{arith}
use Rattle.places.specs.Places.{counts_at, latched_at, over_at}
use Rattle.places.specs.PlacesLaws.{front_held}
use Rattle.numbers.specs.ScalersLaws.{row_size, row_small, counts_wide, latched_wide, scalers_loaded}
use Rattle.numbers.proofs.load.scalers_from.Goals as goal

pub row-counts-requires : goal.row-counts-requires
row-counts-requires c =
    let n = c.args.numbers.now in
    (omega arith, (row_size n c.requires counts_at 16 (omega arith) counts_wide, row_small n c.requires counts_at 16 (omega arith) counts_wide))

pub row-latched-requires : goal.row-latched-requires
row-latched-requires c =
    let n = c.args.numbers.now in
    (omega arith, (row_size n c.requires latched_at 18 (omega arith) latched_wide, row_small n c.requires latched_at 18 (omega arith) latched_wide))

pub marks_from-over-requires : goal.marks_from-over-requires
marks_from-over-requires c = omega (arith, c.at.ensures, front_held _ c.requires over_at (omega arith))

pub returns : goal.returns
returns c =
    scalers_loaded c.args.numbers.now c.requires c.row-counts.ensures c.row-latched.ensures c.at.ensures c.marks_from-over.ensures c.at32.ensures c.at32-2.ensures c.at32-3.ensures
