-- `items::put::put_if` meets its contract.
use Rattle.ground.specs.WritingLaws.{nothing_new}
use Rattle.items.proofs.put.put_if.Goals as goal

pub returns-then-on : goal.returns-then-on
returns-then-on c = rw c.if-on.true c.put_item.ensures

pub returns-else-on : goal.returns-else-on
returns-else-on c = rw c.if-on.false (nothing_new _ _ _)
