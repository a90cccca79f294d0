-- `tail::put_words` meets its contract: what is left to write are the counts that are left.
use Rattle.std.proofs.Common.{drop}
use Rattle.ground.specs.WritingLaws.{Left}
use Rattle.items.specs.Items.{words_of}
use Rattle.tail.specs.Tail.{word_items}
use Rattle.tail.proofs.put_words.Given as goal

abbrev pub invariant-loop-value : goal.invariant-loop-value
invariant-loop-value l = Left l.initial.words l.at (words_of (word_items l.latched)) l.words l.next (words_of (word_items (drop l.value-index l.latched)))
