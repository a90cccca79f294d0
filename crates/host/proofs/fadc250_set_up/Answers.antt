-- `host::fadc250_set_up` meets its contract. Assumes nothing.
use Rattle.std.proofs.Common.{ℕ, refl, sym, ap, ◌∙◌}
use Rattle.refusals.specs.Refusal.{bad_array, or_else}
use Rattle.refusals.specs.RefusalLaws.{number_some}
use Rattle.writer.specs.AnswerLaws.{told_made}
use Rattle.host.specs.FaceLaws.{set_up_other, set_up_refused, set_up_face}
use Rattle.host.proofs.fadc250_set_up.Goals as goal

pub returns-then-state-ne-STATE : goal.returns-then-state-ne-STATE
returns-then-state-ne-STATE c =
    let told_same = ap (λ (k : ℕ). or_else k bad_array) (sym (told_made c.set_up-answer.result)) in
    set_up_other _ _ c.settings_or_none.ensures c.set_up-answer.ensures (c.told_bad_array.ensures ∙ told_same) c.if-state-ne-STATE.true

pub returns-in-Ok : goal.returns-in-Ok
returns-in-Ok c = set_up_face _ _ c.settings_or_none.ensures c.in-Ok.ensures refl c.if-state-ne-STATE.false c.put_state.ensures

pub returns-in-Err : goal.returns-in-Err
returns-in-Err c = set_up_refused _ _ c.settings_or_none.ensures c.in-Err.ensures c.if-state-ne-STATE.false (number_some c.in-Err.refusal) c.put.ensures c.number.ensures
