-- `copies::put` meets its contract. Assumes nothing.
use Rattle.std.proofs.Common.{◌+◌, refl, sym, ◌∙◌, arith, leb-true}
use Rattle.ground.specs.CopyLaws.{copy_start, copy_turn}
use Rattle.copies.proofs.put.Goals as goal

pub returns-then-not-has_room : goal.returns-then-not-has_room
returns-then-not-has_room g c = rw (sym c.has_room.ensures ∙ c.if-not-has_room.true)

pub loop-i-init : goal.loop-i-init
loop-i-init g c = (leb-true _ _ (sym c.has_room.ensures ∙ c.if-not-has_room.false), copy_start _ _ _)

pub loop-i-preserved : goal.loop-i-preserved
loop-i-preserved g c =
    let inv = c.loop-i.invariant in
    let turn = copy_turn inv.1 (c.args.at + c.loop-i.i) c.index-new-i.result refl c.loop-i-test.true (omega arith) in
    (inv.0, rw (← c.index-new-i.is) at turn)
