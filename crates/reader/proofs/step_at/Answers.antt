-- `reader::step_at` meets its contract.
use Rattle.std.proofs.Common.{sym, ◌∙◌}
use Rattle.reader.specs.ReaderLaws.{step_limit, step_form, step_unallowed, step_end}
use Rattle.reader.specs.AnswersLaws.{step_says}
use Rattle.reader.proofs.Via.{via}
use Rattle.reader.proofs.step_at.Goals as goal

pub returns-then-at_limit : goal.returns-then-at_limit
returns-then-at_limit c = step_says _ _ (rw c.at.ensures (sym (step_limit _ _ (via c.at_limit.ensures c.if-at_limit.true))))

pub returns-in-Window : goal.returns-in-Window
returns-in-Window c = step_says _ _ c.window_step.ensures

pub returns-in-Form : goal.returns-in-Form
returns-in-Form c =
    step_says _ _
    (c.form_step.ensures ∙ sym (step_form _ _ (via c.in-Form.is c.meaning_at.ensures) (via c.at_limit.ensures c.if-at_limit.false)))

pub returns-in-Unallowed : goal.returns-in-Unallowed
returns-in-Unallowed c =
    step_says _ _
    (rw c.at-in-Unallowed.ensures (sym (step_unallowed _ _ (via c.in-Unallowed.is c.meaning_at.ensures) (via c.at_limit.ensures c.if-at_limit.false))))

pub returns-in-End : goal.returns-in-End
returns-in-End c = step_says _ _ (sym (step_end _ _ (via c.in-End.is c.meaning_at.ensures)))
