-- `scalers::latch` meets its contract: the counts, and the timer and the triggers behind them.
use Rattle.std.proofs.Common.{◌≡◌, length, rules}
use Rattle.scalers.specs.declared.Scalers.{Scalers}
use Rattle.scalers.specs.Scalers.{latched_now}
use Rattle.scalers.specs.CountLaws.{latched_is}
use Rattle.scalers.proofs.latch.Goals as goal

pub returns : goal.returns
unfolding latched_now
returns c =
    let s : Scalers = c.args.s in
    let size : length s.counts ≡ 16 = search rules in
    let all = latched_is s.counts c.put.new.out c.put-2.new.out s.timer s.triggers size c.put.ensures c.put-2.ensures in
    rw all
