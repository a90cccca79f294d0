-- `scalers::count` meets its contract: frames seen in parts, then the timer's groups.
use Rattle.std.proofs.Common.{◌≡◌}
use Rattle.scalers.specs.CountLaws.{ToCount}
use Rattle.scalers.proofs.count.Given as goal

abbrev pub invariant-loop-part : goal.invariant-loop-part
invariant-loop-part l = (l.part-iterator.size ≡ 65536) × ToCount l.narrow l.s l.samples l.counts l.over l.part-iterator.rest.now
