-- `records::next` meets its contract.
use Rattle.std.proofs.Common.{sym, ◌∙◌}
use Rattle.records.specs.AtLaws.{next_none}
use Rattle.records.specs.AnswersLaws.{next_answers}
use Rattle.records.proofs.next.Goals as goal

pub returns-then-words-place : goal.returns-then-words-place
returns-then-words-place c = next_answers _ _ (c.end_of.ensures ∙ sym (next_none _ _ c.if-words-place.true))
