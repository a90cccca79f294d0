-- `pulse::put_word_if` meets its contract: one store is a run of one word.
use Rattle.std.proofs.Common.{refl, arith}
use Rattle.ground.specs.SpliceLaws.{set_splice}
use Rattle.ground.specs.WritingLaws.{written_nil}
use Rattle.pulse.specs.Inner.{word_if}
use Rattle.pulse.proofs.put_word_if.Goals as goal

pub bounds-words-at : goal.bounds-words-at
unfolding word_if
bounds-words-at c = let r = rw c.if-on.true at c.requires in omega (arith, r)

pub returns-then-on : goal.returns-then-on
unfolding word_if
returns-then-on c =
    let a = c.args in
    let r = rw c.if-on.true at c.requires in
    rw c.if-on.true (record { place = refl; words = set_splice a.words.now a.at a.word (omega (arith, r)) })

pub returns-else-on : goal.returns-else-on
unfolding word_if
returns-else-on c = rw c.if-on.false (written_nil _ _)
