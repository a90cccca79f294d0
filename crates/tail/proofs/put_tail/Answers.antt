-- `tail::put_tail` meets its contract: the word that says how many, and the counts behind it.
use Rattle.std.proofs.Common.{◌+◌, ◌≤◌, ◌≡◌, refl, sym, ◌∙◌, List, [], ◌∷◌, ◌++◌, arith, rules, ltb-true, ltb-false, length}
use Rattle.ground.specs.Splice.{Written}
use Rattle.items.specs.Items.{words_of}
use Rattle.items.specs.declared.Item.{Item}
use Rattle.items.specs.declared.Item.TheVariants as I
use Rattle.items.specs.ItemsLaws.{first_room, then_room, put_written, then_written, put_wrote, put_nothing}
use Rattle.tail.specs.Tail.{word_items, scaler_items}
use Rattle.tail.specs.TailLaws.{length_items, length_scalers}
use Rattle.tail.proofs.put_tail.Goals as goal
use Rattle.tail.proofs.put_tail.Goals.{After-put_item-next, Else-room_short}

abbrev header : List Item
header = I.Scalers (record { count = 18 }) ∷ []

pub returns-then-room_short : goal.returns-then-room_short
returns-then-room_short c =
    let size : length c.args.latched ≡ 18 = search rules in
    let short = ltb-true (length c.args.words.now) (c.args.at + 19) (sym c.room_short.ensures ∙ c.if-room_short.true) in
    put_nothing (scaler_items c.args.latched) (omega (arith, short, length_scalers c.args.latched, size))

-- all of them have room
module _ (c : Else-room_short) where
  size : length c.args.latched ≡ 18
  size = search rules

  room : c.args.at + length (header ++ word_items c.args.latched) ≤ length c.args.words.now
  room = omega (arith, ltb-false (length c.args.words.now) (c.args.at + 19) (sym c.room_short.ensures ∙ c.if-room_short.false), length_items c.args.latched, size)

wrote_header : (c : After-put_item-next) → c.args.at + length (header ++ word_items c.args.latched) ≤ length c.args.words.now → Written c.args.words.now c.args.at (words_of header) c.put_item-next.result c.put_item-next.new.words
wrote_header c all = put_written header refl (first_room _ _ header (word_items c.args.latched) all) c.put_item-next.ensures

pub put_words-requires : goal.put_words-requires
put_words-requires c =
    let all = room (goal.at.put_words-requires c).Else-room_short in
    let behind = then_room _ _ header (word_items c.args.latched) _ _ all (wrote_header (goal.at.put_words-requires c).After-put_item-next all) in
    rw (length_items c.args.latched) at behind

pub returns : goal.returns
unfolding scaler_items
returns c =
    let all = room (goal.at.returns c).Else-room_short in
    let items = word_items c.args.latched in
    let both = then_written _ _ header _ _ items _ _ (omega (arith, all)) (wrote_header (goal.at.returns c).After-put_item-next all) c.put_words.ensures in
    put_wrote (header ++ items) refl all both
