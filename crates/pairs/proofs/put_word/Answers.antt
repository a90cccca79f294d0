-- `pairs::put_word` meets its contract: one store is a run of one word.
use Rattle.std.proofs.Common.{refl, arith}
use Rattle.ground.specs.SpliceLaws.{set_splice}
use Rattle.pairs.proofs.put_word.Goals as goal

pub returns : goal.returns
returns c =
    let a = c.args in
    record { place = refl; words = set_splice a.words.now a.at a.word (omega arith) }
