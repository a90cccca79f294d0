-- `places::held_scalers` meets its contract. Assumes nothing.
use Rattle.std.proofs.Common.{ap, ◌∙◌}
use Rattle.ground.specs.Tests.{all_le}
use Rattle.places.specs.Places.{most32}
use Rattle.places.specs.PlacesLaws.{tail_part, scalers_asked}
use Rattle.places.proofs.held_scalers.Goals as goal

pub returns : goal.returns
returns c =
    let n = c.args.numbers.now in
    scalers_asked n c.requires c.held_in_32-running.ensures (c.held_in_32-kept.ensures ∙ ap (all_le most32) (tail_part n 20))
