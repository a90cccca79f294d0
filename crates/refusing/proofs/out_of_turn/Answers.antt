-- `refusing::out_of_turn` meets its contract. Assumes nothing.
use Rattle.std.proofs.Common.{sym, ◌∙◌}
use Rattle.refusing.proofs.out_of_turn.Goals as goal

pub returns-then-state_ok : goal.returns-then-state_ok
returns-then-state_ok c = rw (sym c.state_ok.ensures ∙ c.if-state_ok.true)

pub returns : goal.returns
returns c = rw (sym c.state_ok.ensures ∙ c.if-state_ok.false)
