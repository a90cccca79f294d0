-- `block::put_head` meets its contract: the header, then any parameters word. Assumes nothing.
use Rattle.std.proofs.Common.{ℕ, refl, List, [], ◌∷◌, arith}
use Rattle.settings.specs.declared.Settings.{Settings}
use Rattle.settings.specs.RangesLaws.{settings_in_range}
use Rattle.items.specs.Items.{item_if}
use Rattle.items.specs.declared.Item.{Item}
use Rattle.items.specs.declared.Item.TheVariants as I
use Rattle.items.specs.ItemsLaws.{first_room, then_room, put_written, then_written}
use Rattle.block.specs.Block.{block_items}
use Rattle.block.proofs.put_head.Goals as goal

abbrev header : Settings → ℕ → ℕ → List Item
header s number events = I.Block (record { slot = s.slot; number = number; events = events }) ∷ []

abbrev parameters : Settings → List Item
parameters s = item_if s.parameters (I.Parameters (record { pl = s.pl; nsb = s.nsb; nsa = s.nsa }))

pub overflow_cast-parameters : goal.overflow_cast-parameters
overflow_cast-parameters c =
    omega (arith, (settings_in_range c.args.settings c.requires.0).nsb)

pub overflow_cast-parameters-2 : goal.overflow_cast-parameters-2
overflow_cast-parameters-2 c =
    omega (arith, (settings_in_range c.args.settings c.requires.0).nsa.1)

pub returns : goal.returns
unfolding block_items
returns c =
    let x = header c.args.settings c.args.number c.args.events in
    let y = parameters c.args.settings in
    let first = put_written x refl (first_room _ _ x y c.requires.1) c.put_item-next.ensures in
    let second = put_written y refl (then_room _ _ x y _ _ c.requires.1 first) c.put_if.ensures in
    then_written _ _ x _ _ y _ _ (omega (arith, c.requires.1)) first second
