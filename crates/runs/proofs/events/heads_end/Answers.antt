-- `runs::events::heads_end` meets its contract.
use Rattle.std.proofs.Common.{◌-◌, ◌+◌, ◌≡◌, arith}
use Rattle.runs.specs.RunsLaws.{events_more}
use Rattle.runs.proofs.events.heads_end.Goals as goal

pub loop-passed-preserved : goal.loop-passed-preserved
loop-passed-preserved c =
    let head = c.head_end-next.ensures in
    let l = c.loop-passed in
    let left : c.args.left - l.passed - 1 ≡ c.args.left - (l.passed + 1) = omega arith in
    (head.0, rw left at (events_more l.invariant.1 (head.1.event (omega (arith, head.1.ahead)) (c.args.left - l.passed) (omega arith))))
