-- `pairs::odd_word` meets its contract: its record, built.
use Rattle.raw.specs.Words.{pair}
use Rattle.items.specs.Items.{word_of}
use Rattle.pairs.proofs.odd_word.Goals as goal

pub returns : goal.returns
unfolding word_of pair
returns c = c.build.ensures
