-- `tail::put_words` meets its contract: what is left to write are the counts that are left.
use Rattle.std.proofs.Common.{◌+◌, ◌≤◌, ◌≡◌, refl, List, [], ◌∷◌, arith, length, get_or, drop, drop_of_length-le}
use Rattle.ground.specs.WritingLaws.{left_all, written}
use Rattle.items.specs.declared.Item.{Item}
use Rattle.items.specs.declared.Item.TheVariants as I
use Rattle.items.specs.ItemsLaws.{loop_room, loop_less, loop_none}
use Rattle.tail.specs.Tail.{word_items}
use Rattle.tail.specs.TailLaws.{length_items, items_step}
use Rattle.tail.proofs.put_words.Goals as goal

pub loop-value-preserved : goal.loop-value-preserved
loop-value-preserved c =
    let head = c.loop-value in
    let a = c.args in
    let l = a.latched.now in
    let one : List Item = I.Scaler (record { value = get_or l head.value-index 0 }) ∷ [] in
    let rest = word_items (drop (head.value-index + 1) l) in
    let fits : a.at + length (word_items l) ≤ length a.words.now = rw (length_items l) c.requires in
    let due = rw (items_step l head.value-index c.loop-value-test.true) at head.invariant in
    let room = loop_room a.words.now a.at (word_items l) fits head.words head.next one rest due in
    loop_less a.words.now a.at (word_items l) fits head.words head.next one rest _ _ due (written refl room c.put_item-next.ensures)

pub returns : goal.returns
returns c =
    let a = c.args in
    let l = a.latched.now in
    let fits : a.at + length (word_items l) ≤ length a.words.now = rw (length_items l) c.requires in
    let none : drop c.loop-value.value-index l ≡ [] = drop_of_length-le l {i = c.loop-value.value-index} (omega (arith, c.loop-value-test.false)) in
    loop_none a.words.now a.at (word_items l) fits c.loop-value.words c.loop-value.next (rw none at c.loop-value.invariant)

pub loop-value-init : goal.loop-value-init
loop-value-init c = left_all _ _ _

pub shape_of-words : goal.shape_of-words
shape_of-words c = c.loop-value.invariant.size
