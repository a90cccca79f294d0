-- `refusing::store_short` meets its contract: floor (room / 16) < nw is room < 16 x nw. Assumes nothing.
use Rattle.std.proofs.Common.{suc, ◌*◌, ◌/◌, arith}
use Rattle.ground.specs.TestsLaws.{same_test}
use Rattle.refusing.proofs.store_short.Goals as goal

pub returns : goal.returns
returns c =
    let a = c.args in
    same_test (suc (a.room / 16)) a.nw (suc a.room) (16 * a.nw) (λ h. omega arith) (λ h. omega arith)
