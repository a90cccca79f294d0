-- `places::is_settings` meets its contract. Assumes nothing.
use Rattle.std.proofs.Common.{sym}
use Rattle.places.specs.PlacesLaws.{settings_short, settings_asked}
use Rattle.places.proofs.is_settings.Goals as goal

pub returns-then-numbers-lt-CHANNELS : goal.returns-then-numbers-lt-CHANNELS
returns-then-numbers-lt-CHANNELS c = sym (settings_short c.args.numbers.now c.if-numbers-lt-CHANNELS.true)

pub returns : goal.returns
returns c =
    settings_asked c.args.numbers.now c.if-numbers-lt-CHANNELS.false c.held_in-fields.ensures c.held_in_32-thresholds.ensures
