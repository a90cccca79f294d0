-- `scalers::frames::see_frames` meets its contract: a frame a turn.
use Rattle.std.proofs.Common.{◌≡◌}
use Rattle.scalers.specs.CountLaws.{ToSee}
use Rattle.scalers.proofs.frames.see_frames.Given as goal

abbrev pub invariant-loop-frame : goal.invariant-loop-frame
invariant-loop-frame l = (l.frame-iterator.size ≡ 16) × ToSee l.thresholds l.initial.over l.frames l.rises l.over l.frame-iterator.rest.now
