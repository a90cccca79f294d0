-- `scalers::frames::add_rises` meets its contract: what each channel has seen is stored at its place.
use Rattle.ground.specs.CopyLaws.{Copied}
use Rattle.scalers.specs.Scalers.{rises_of}
use Rattle.scalers.specs.Inner.{plus_of}
use Rattle.scalers.proofs.frames.add_rises.Given as goal

abbrev pub invariant-loop-channel : goal.invariant-loop-channel
invariant-loop-channel l = Copied l.initial.rises 0 (plus_of l.initial.rises (rises_of l.before l.now)) l.rises l.channel
