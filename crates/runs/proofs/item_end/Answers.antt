-- `runs::item_end` meets its contract.
use Rattle.std.proofs.Common.{◌+◌, ◌-◌, ◌*◌, ◌≤◌, refl, arith}
use Rattle.stretches.specs.Stretches.{measure}
use Rattle.stretches.specs.WordsLaws.{words_count}
use Rattle.stretches.specs.StretchesLaws.{Counted, counted}
use Rattle.runs.specs.RunsLaws.{measures_passed}
use Rattle.runs.proofs.item_end.Goals as goal
use Rattle.runs.proofs.item_end.Goals.{After-measured_count}

-- what was counted
measured : (c : After-measured_count) →
    let a = c.args in
    Counted measure a.bytes.now a.k (4 * a.end - 4 * a.k) c.measured_count.result
measured c =
    let a = c.args in
    counted a.bytes.now a.k refl (omega arith) c.measured_count.ensures

pub returns : goal.returns
returns c =
    let a = c.args in
    let n : a.k + c.measured_count.result ≤ a.end = omega (arith, (measured c).within) in
    (n, measures_passed (measured c).all (omega (arith, words_count a.bytes.now)))

pub overflow_add-result : goal.overflow_add-result
overflow_add-result c = omega (arith, (measured c).within)
