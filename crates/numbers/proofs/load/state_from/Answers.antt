-- `numbers::load::state_from` meets its contract. Assumes nothing.
use Rattle.std.proofs.Common.{arith}
use Rattle.places.specs.Places.{front_count, marks_at}
use Rattle.places.specs.PlacesLaws.{state_settings_held, front_held, tail_part}
use Rattle.numbers.specs.StoreLaws.{state_loaded}
use Rattle.numbers.proofs.load.state_from.Goals as goal

pub settings_from-settings-requires : goal.settings_from-settings-requires
settings_from-settings-requires c = rw (tail_part c.args.numbers.now front_count) (state_settings_held _ c.requires)

pub marks_from-posted-requires : goal.marks_from-posted-requires
marks_from-posted-requires c = omega (arith, c.at-2.ensures, front_held _ c.requires marks_at (omega arith))

pub returns : goal.returns
returns c =
    state_loaded c.args.numbers.now c.requires c.settings_from-settings.ensures c.scalers_from-scalers.ensures c.at.ensures c.phase_from-phase.ensures c.at-2.ensures c.marks_from-posted.ensures c.at32.ensures c.at32-2.ensures c.at32-3.ensures c.at-3.ensures c.at32-4.ensures c.at-4.ensures
