-- `rawitems::pairs_from` meets its contract.
use Rattle.std.proofs.Common.{◌≡◌, drop}
use Rattle.rawitems.specs.Pairs.{pairs_from}
use Rattle.rawitems.proofs.pairs_from.Given as goal

abbrev pub invariant-loop-word : goal.invariant-loop-word
invariant-loop-word l = pairs_from l.fn.scan 0 l.words ≡ pairs_from l.behind l.count (drop l.word-index l.words)
