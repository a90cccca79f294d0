-- `rows::lent` meets its contract: nw ≤ floor (room / 16) is 16 x nw ≤ room.
use Rattle.std.proofs.Common.{◌*◌, ◌/◌, arith, length}
use Rattle.ground.specs.TestsLaws.{same_test}
use Rattle.rows.specs.Rows.{lent_ok}
use Rattle.rows.proofs.lent.Goals as goal

pub returns : goal.returns
unfolding lent_ok
returns c =
    let a = c.args in
    let n = length a.store.now in
    rw (c.in_range.ensures, same_test a.settings.nw (n / 16) (16 * a.settings.nw) n (λ h. omega arith) (λ h. omega arith))
