-- `follow::fill_from` meets its contract.
use Rattle.std.proofs.Common.{◌≡◌, drop}
use Rattle.follow.specs.Follow.{fill_from}
use Rattle.follow.proofs.fill_from.Given as goal

abbrev pub invariant-loop-word : goal.invariant-loop-word
invariant-loop-word l = fill_from 1 l.fn.scan l.words ≡ fill_from l.fill.count l.fill.scan (drop l.word-index l.words)
