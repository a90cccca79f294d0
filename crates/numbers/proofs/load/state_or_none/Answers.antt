-- `numbers::load::state_or_none` meets its contract. Assumes nothing.
use Rattle.std.proofs.Common.{sym, ◌∙◌}
use Rattle.numbers.specs.StoreLaws.{state_held, state_none}
use Rattle.numbers.proofs.load.state_or_none.Goals as goal

pub returns-then-is_state : goal.returns-then-is_state
returns-then-is_state c = state_held _ (sym c.is_state.ensures ∙ c.if-is_state.true) c.state_from.ensures

pub returns-else-is_state : goal.returns-else-is_state
returns-else-is_state c = state_none _ (sym c.is_state.ensures ∙ c.if-is_state.false) c.no_state.ensures
