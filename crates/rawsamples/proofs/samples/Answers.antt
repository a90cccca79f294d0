-- `rawsamples::samples` meets its contract: the samples are counted in no array, then written where they fit.
use Rattle.std.proofs.Common.{arith}
use Rattle.rawsamples.proofs.RawSamplesLaws.{no_room, room}
use Rattle.rawsamples.proofs.samples.Goals as goal

pub returns-then-out-count : goal.returns-then-out-count
returns-then-out-count c = no_room _ _ _ c.part-part.ensures (omega (arith, c.ranges)) c.put_pairs-count.ensures c.if-out-count.true

pub returns : goal.returns
returns c =
    room _ _ _ c.part-part.ensures (omega (arith, c.ranges)) c.put_pairs-count.ensures _ _ c.if-out-count.false (omega (arith, c.well_formed)) c.put_pairs.ensures
