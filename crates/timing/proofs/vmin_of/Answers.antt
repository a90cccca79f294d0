-- `timing::vmin_of` meets its contract. Assumes nothing.
use Rattle.std.proofs.Common.{arith}
use Rattle.timing.specs.Time.{vmin}
use Rattle.timing.proofs.EdgeLaws.{four}
use Rattle.timing.proofs.vmin_of.Goals as goal

pub returns : goal.returns
unfolding vmin
returns c =
    omega (
      arith,
      four c.args.window.now,
      c.amp_at-first.ensures.0,
      c.amp_at-second.ensures.0,
      c.amp_at-third.ensures.0,
      c.amp_at-fourth.ensures.0,
    )
