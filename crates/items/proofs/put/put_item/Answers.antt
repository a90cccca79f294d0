-- `items::put::put_item` meets its contract: one store is a run of one word.
use Rattle.std.proofs.Common.{refl, ap, ◌∙◌, [], ◌∷◌, ℕ, arith}
use Rattle.ground.specs.Splice.{splice}
use Rattle.ground.specs.SpliceLaws.{set_splice}
use Rattle.ground.specs.WritingLaws.{wrote, no_room}
use Rattle.items.proofs.put.put_item.Goals as goal

pub returns-then-at-words : goal.returns-then-at-words
returns-then-at-words c =
    let a = c.args in
    wrote refl (omega arith)
    (record {
      place = refl;
      words = set_splice a.words.now a.at c.build.result (omega arith) ∙ ap (λ (w : ℕ). splice a.words.now a.at (w ∷ [])) c.build.ensures;
    })

pub returns : goal.returns
returns c = no_room (omega arith)
