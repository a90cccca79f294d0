-- `places::is_state` meets its contract. Assumes nothing.
use Rattle.std.proofs.Common.{sym}
use Rattle.places.specs.PlacesLaws.{short_none, state_asked}
use Rattle.places.proofs.is_state.Goals as goal

pub returns-then-numbers-lt-FRONT : goal.returns-then-numbers-lt-FRONT
returns-then-numbers-lt-FRONT c = sym (short_none c.args.numbers.now c.if-numbers-lt-FRONT.true)

pub returns : goal.returns
returns c =
    state_asked c.args.numbers.now c.if-numbers-lt-FRONT.false c.held_in-head.ensures c.held_scalers-scalers.ensures c.is_settings-settings.ensures
