-- `block::put_last` meets its contract: the trailer, then the fillers. Assumes nothing.
use Rattle.std.proofs.Common.{ℕ, ◌+◌, ◌≤◌, ◌≡◌, refl, ap, ◌∙◌, List, [], ◌∷◌, ◌++◌, arith, length, replicate}
use lib.ListN.{length-replicate}
use Rattle.ground.specs.Splice.{Written}
use Rattle.settings.specs.declared.Settings.{Settings}
use Rattle.items.specs.Items.{words_of}
use Rattle.items.specs.declared.Item.{Item}
use Rattle.items.specs.declared.Item.TheVariants as I
use Rattle.items.specs.ItemsLaws.{first_room, then_room, put_written, then_written}
use Rattle.block.specs.Block.{fillers_to, end_items}
use Rattle.block.proofs.put_last.Goals as goal
use Rattle.block.proofs.put_last.Goals.{After-fillers_to-fillers, After-put_item-next, Start}

abbrev trailer : Settings → ℕ → List Item
trailer s at = I.Trailer (record { slot = s.slot; words = at + 1 }) ∷ []

abbrev fillers : Settings → ℕ → List Item
fillers s at = replicate (fillers_to s.multiple (at + 1)) (I.Filler (record { slot = s.slot }))

whole : (c : Start) → c.args.at + length (trailer c.args.settings c.args.at ++ fillers c.args.settings c.args.at) ≤ length c.args.words.now
unfolding end_items
whole c = c.requires.1

wrote_trailer : (c : After-put_item-next) → c.args.at + length (trailer c.args.settings c.args.at ++ fillers c.args.settings c.args.at) ≤ length c.args.words.now → let a = c.args in Written a.words.now a.at (words_of (trailer a.settings a.at)) c.put_item-next.result c.put_item-next.new.words
wrote_trailer c room =
    let x = trailer c.args.settings c.args.at in
    put_written x refl (first_room _ _ x (fillers c.args.settings c.args.at) room) c.put_item-next.ensures

-- the fillers counted are those to the multiple
counted : (c : After-fillers_to-fillers) → c.put_item-next.result ≡ c.args.at + 1 → let a = c.args in c.fillers_to-fillers.result ≡ fillers_to a.settings.multiple (a.at + 1)
counted c next =
    let a = c.args in
    c.fillers_to-fillers.ensures ∙ ap (fillers_to a.settings.multiple) next

pub put_fillers-requires : goal.put_fillers-requires
put_fillers-requires c =
    let wrote = wrote_trailer (goal.at.put_fillers-requires c).After-put_item-next (whole (goal.at.put_fillers-requires c).Start) in
    let y = fillers c.args.settings c.args.at in
    rw (counted (goal.at.put_fillers-requires c).After-fillers_to-fillers wrote.place) (rw length-replicate at (then_room _ _ (trailer c.args.settings c.args.at) y _ _ (whole (goal.at.put_fillers-requires c).Start) wrote))

pub returns : goal.returns
unfolding end_items
returns c =
    let wrote = wrote_trailer (goal.at.returns c).After-put_item-next (whole (goal.at.returns c).Start) in
    let x = trailer c.args.settings c.args.at in
    let y = fillers c.args.settings c.args.at in
    then_written _ _ x _ _ y _ _ (omega (arith, whole (goal.at.returns c).Start)) wrote (rw (counted (goal.at.returns c).After-fillers_to-fillers wrote.place) at c.put_fillers.ensures)
