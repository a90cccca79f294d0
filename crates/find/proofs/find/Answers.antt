-- `find::find` meets its contract. Assumes nothing.
use Rattle.std.proofs.Common.{rules, ap, ◌≡◌, sym, ◌∙◌, arith, eq-eqb, length}
use Rattle.std.specs.declared.result.Result.TheVariants.{Err}
use Rattle.refusals.specs.RefusalLaws.{number_some}
use Rattle.finder.specs.Find.{packed}
use Rattle.finder.specs.FindLaws.{range_searches, find_all_lem}
use Rattle.find.specs.Call.{channel_pulses}
use Rattle.find.specs.CallLaws.{Accepted, accepted, found_none, found_all}
use Rattle.find.proofs.RulesLaws.{find_says}
use Rattle.find.proofs.find.Goals as goal
use Rattle.find.proofs.find.Goals.{In_ok-check}

pub returns-in_err-check : goal.returns-in_err-check
returns-in_err-check c =
    let e : c.from_residual.result ≡ Err c.in_err-check.field-0.0 = search rules in
    rw e (find_says _ _ _ c.in_err-check.ensures (sym (ap packed (found_none _ _ _ (rw (sym c.in_err-check.ensures) (number_some c.in_err-check.field-0.0))))))

taken : (c : In_ok-check) → Accepted c.args.settings c.args.channel c.args.window.now
taken c = accepted _ _ _ (sym c.in_ok-check.ensures)

pub offset_bounds-settings-channel : goal.offset_bounds-settings-channel
offset_bounds-settings-channel c = omega (arith, taken c)

pub bounds-settings-channel : goal.bounds-settings-channel
bounds-settings-channel c = omega (arith, taken c)

pub returns : goal.returns
unfolding channel_pulses
returns c =
    let a = c.args in
    let t = taken (goal.at.returns c).In_ok-check in
    let asked = range_searches a.settings (length a.window.now) t.settings (omega (arith, t.long, t.settings.nw)) in
    find_says _ _ _ c.in_ok-check.ensures (rw (found_all _ _ _ (eq-eqb _ _ (sym c.in_ok-check.ensures))) (c.pulses_of.ensures ∙ find_all_lem _ _ _ _ _ asked))
