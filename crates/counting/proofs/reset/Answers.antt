-- `counting::reset` meets its contract. Assumes nothing.
use Rattle.std.proofs.Common.{rules, ◌≡◌}
use Rattle.std.specs.declared.result.Result.TheVariants.{Err}
use Rattle.refusals.specs.RefusalLaws.{number_some}
use Rattle.state.specs.State.{with_scalers}
use Rattle.counting.specs.Counting.{latch_table, latch_number, reset_table, reset_number}
use Rattle.counting.proofs.reset.Goals as goal

pub returns-in_err-state_check : goal.returns-in_err-state_check
unfolding reset_table reset_number latch_table latch_number
returns-in_err-state_check c =
    let number = c.in_err-state_check.ensures in
    let some = number_some c.in_err-state_check.field-0.0 in
    let e : c.from_residual.result ≡ Err c.in_err-state_check.field-0.0 = search rules in
    rw e (record { refusal = number; state = rw (← number, some) })

pub returns : goal.returns
unfolding with_scalers reset_table reset_number latch_table latch_number
returns c =
    let number = c.in_ok-state_check.ensures in
    record { refusal = number; state = rw (← number, c.reset-state.ensures) }
