-- `event::put_times` meets its contract: the first time word where one is written, then the second.
use Rattle.std.proofs.Common.{ℕ, ◌/◌, ◌%◌, ◌^◌, refl, List, arith, leb}
use Rattle.items.specs.declared.Item.{Item}
use Rattle.items.specs.declared.Item.TheVariants as I
use Rattle.items.specs.ItemsLaws.{first_room, then_room, put_written, then_written}
use Rattle.items.specs.Items.{item_if}
use Rattle.event.specs.Event.{time_items}
use Rattle.event.proofs.put_times.Goals as goal

abbrev low : ℕ → ℕ → List Item
low times time = item_if (leb 1 times) (I.Clock (record { middle = time / 2 ^ 24 % 2 ^ 3; low = time % 2 ^ 24 }))

abbrev high : ℕ → ℕ → List Item
high times time = item_if (leb 2 times) (I.ClockHigh (record { high = time / 2 ^ 24 }))

pub returns : goal.returns
unfolding time_items
returns c =
    let x = low c.args.times c.args.time in
    let y = high c.args.times c.args.time in
    let first = put_written x refl (first_room _ _ x y c.requires.time_in_bounds) c.put_if-second.ensures in
    let second = put_written y refl (then_room _ _ x y _ _ c.requires.time_in_bounds first) c.put_if.ensures in
    then_written _ _ x _ _ y _ _ (omega (arith, c.requires.time_in_bounds)) first second
