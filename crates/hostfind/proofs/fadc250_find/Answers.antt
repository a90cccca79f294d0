-- `hostfind::fadc250_find` meets its contract. Assumes nothing.
use Rattle.std.proofs.Common.{sym, ◌∙◌, refl}
use Rattle.refusals.specs.RefusalLaws.{number_some}
use Rattle.hostfind.specs.FoundLaws.{found_small, find_none, find_short, find_face, find_refused}
use Rattle.hostfind.proofs.fadc250_find.Goals as goal

pub returns-then-not-is_settings : goal.returns-then-not-is_settings
returns-then-not-is_settings c =
    find_none _ _ _ _ (sym c.is_settings.ensures ∙ c.if-not-is_settings.true) c.clear.ensures c.number.ensures

pub returns-then-out-lt-FOUND : goal.returns-then-out-lt-FOUND
returns-then-out-lt-FOUND c =
    find_short _ _ _ _ c.settings_or_none-loaded.ensures c.find-answer.ensures c.told_bad_array.ensures c.if-out-lt-FOUND.true

pub put_found-requires : goal.put_found-requires
put_found-requires c = (c.if-out-lt-FOUND.false, found_small _ _ _ _ (rw c.in-Ok.is at c.find-answer.ensures))

pub returns-in-Ok : goal.returns-in-Ok
returns-in-Ok c =
    find_face _ _ _ _ c.settings_or_none-loaded.ensures (rw c.in-Ok.is at c.find-answer.ensures) c.if-out-lt-FOUND.false c.put_found.ensures refl

pub returns-in-Err : goal.returns-in-Err
returns-in-Err c =
    find_refused _ _ _ _ c.settings_or_none-loaded.ensures (rw c.in-Err.is at c.find-answer.ensures) (number_some c.in-Err.refusal) refl c.clear-in-Err.ensures c.number-in-Err.ensures
