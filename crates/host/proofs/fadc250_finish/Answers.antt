-- `host::fadc250_finish` meets its contract. Assumes nothing.
use Rattle.std.proofs.Common.{refl}
use Rattle.refusals.specs.RefusalLaws.{number_some}
use Rattle.host.specs.FaceLaws.{kept_done, kept_refused, finish_face}
use Rattle.host.proofs.fadc250_finish.Goals as goal

pub returns-in-Ok : goal.returns-in-Ok
returns-in-Ok c = finish_face _ _ c.state_or_none-loaded.ensures c.in-Ok.ensures (kept_done _ _ _ _ refl c.put_head.ensures) refl

pub returns-in-Err : goal.returns-in-Err
returns-in-Err c =
    let some = number_some c.in-Err.refusal in
    finish_face _ _ c.state_or_none-loaded.ensures c.in-Err.ensures (kept_refused _ _ _ _ some c.number.ensures) (rw (c.number.ensures, some))
