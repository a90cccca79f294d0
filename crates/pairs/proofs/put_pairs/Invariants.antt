-- `pairs::put_pairs` meets its contract: in a turn what is left begins with the next pair.
use Rattle.std.proofs.Common.{◌*◌, drop}
use Rattle.ground.specs.WritingLaws.{Left}
use Rattle.items.specs.Items.{words_of}
use Rattle.pairs.specs.Pairs.{pair_items}
use Rattle.pairs.proofs.put_pairs.Given as goal

abbrev pub invariant-loop-pair : goal.invariant-loop-pair
invariant-loop-pair l = Left l.initial.words l.at (words_of (pair_items l.samples)) l.words l.next (words_of (pair_items (drop (l.pair-index * 2) l.samples)))
