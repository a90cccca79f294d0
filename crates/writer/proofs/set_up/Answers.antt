-- `writer::set_up` meets its contract. Assumes nothing.
use Rattle.std.proofs.Common.{◌≡◌, sym, ap, ◌∙◌, true, false}
use Rattle.ground.specs.Tests.{first_of}
use Rattle.settings.specs.Ranges.{settings_ok}
use Rattle.state.specs.State.{idle}
use Rattle.refusing.specs.Tables.{set_up_number}
use Rattle.writer.proofs.set_up.Goals as goal

pub returns-then-in_range : goal.returns-then-in_range
unfolding set_up_number first_of
returns-then-in_range c =
    let s = c.args.settings in
    let e : settings_ok s ≡ true = sym c.in_range.ensures ∙ c.if-in_range.true in
    record { refusal = rw e; state = rw e (c.idle_state.ensures ∙ ap (idle s) c.none.ensures) }

pub returns : goal.returns
unfolding set_up_number first_of
returns c =
    let s = c.args.settings in
    let e : settings_ok s ≡ false = sym c.in_range.ensures ∙ c.if-in_range.false in
    record { refusal = rw e; state = rw e }
