-- `event::put_asked` meets its contract: all of the tail, or nothing to write.
use Rattle.std.proofs.Common.{refl}
use Rattle.ground.specs.WritingLaws.{written_nil}
use Rattle.items.specs.ItemsLaws.{put_written}
use Rattle.tail.specs.Tail.{scaler_items, tail_items}
use Rattle.event.proofs.put_asked.Goals as goal

pub returns-then-asked : goal.returns-then-asked
unfolding tail_items
returns-then-asked c =
    let on = c.if-asked.true in
    rw on (put_written (scaler_items c.args.latched) refl (rw on at c.requires) c.put_tail.ensures)

pub returns-else-asked : goal.returns-else-asked
unfolding tail_items
returns-else-asked c = rw c.if-asked.false (written_nil _ _)
