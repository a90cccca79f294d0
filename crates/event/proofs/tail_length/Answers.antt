-- `event::tail_length` meets its contract.
use Rattle.limits.proofs.LimitsLaws.{tail_words_lem}
use Rattle.event.proofs.tail_length.Goals as goal

pub returns-then-asked : goal.returns-then-asked
returns-then-asked c = rw (c.if-asked.true, tail_words_lem)
