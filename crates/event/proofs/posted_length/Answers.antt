-- `event::posted_length` meets its contract.
use Rattle.std.proofs.Common.{length}
use Rattle.settings.specs.RangesLaws.{settings_in_range}
use Rattle.finder.specs.FindLaws.{range_searches}
use Rattle.event.proofs.posted_length.Goals as goal

pub returns-then-posted : goal.returns-then-posted
returns-then-posted c =
    let a = c.args in
    rw c.if-posted.true (rw (range_searches a.settings (length a.row.now) (settings_in_range _ c.requires.0) c.requires.1) at (rw c.from.ensures at c.channel_length.ensures))
