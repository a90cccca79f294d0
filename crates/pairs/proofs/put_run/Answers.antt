-- `pairs::put_run` meets its contract: the header, then the pairs.
use Rattle.std.proofs.Common.{◌+◌, ◌≤◌, refl, sym, ◌∙◌, [], ◌∷◌, arith, ltb-true, ltb-false, length}
use Rattle.items.specs.ItemsLaws.{first_room, then_room, put_written, then_written, put_wrote, put_nothing}
use Rattle.pairs.specs.Pairs.{pair_items}
use Rattle.pairs.specs.PairsLaws.{length_pairs}
use Rattle.pairs.proofs.put_run.Goals as goal
use Rattle.pairs.proofs.put_run.Goals.{Else-room_short}

pub returns-then-room_short : goal.returns-then-room_short
returns-then-room_short c =
    let a = c.args in
    put_nothing (a.header ∷ pair_items a.samples.now)
    (omega (arith, ltb-true (length a.words.now) (a.at + c.run_length.result) (sym c.room_short.ensures ∙ c.if-room_short.true), c.run_length.ensures, length_pairs a.samples.now))

room : (c : Else-room_short) → c.args.at + length (c.args.header ∷ pair_items c.args.samples.now) ≤ length c.args.words.now
room c =
    let a = c.args in
    omega (
      arith,
      ltb-false (length a.words.now) (a.at + c.run_length.result) (sym c.room_short.ensures ∙ c.if-room_short.false),
      c.run_length.ensures,
      length_pairs a.samples.now,
    )

pub put_pairs-requires : goal.put_pairs-requires
put_pairs-requires c =
    let a = c.args in
    let r = room (goal.at.put_pairs-requires c).Else-room_short in
    then_room a.words.now a.at (a.header ∷ []) (pair_items a.samples.now) _ _ r
    (put_written (a.header ∷ []) refl (first_room _ _ (a.header ∷ []) (pair_items a.samples.now) r) c.put_item-pairs.ensures)

pub returns : goal.returns
returns c =
    let a = c.args in
    let r = room (goal.at.returns c).Else-room_short in
    put_wrote (a.header ∷ pair_items a.samples.now) refl r
    (then_written a.words.now a.at (a.header ∷ []) _ _ (pair_items a.samples.now) _ _ (omega (arith, r))
    (put_written (a.header ∷ []) refl (first_room _ _ (a.header ∷ []) (pair_items a.samples.now) r) c.put_item-pairs.ensures)
    c.put_pairs.ensures)
