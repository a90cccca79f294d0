-- `pulse::pulse_length` meets its contract.
use Rattle.std.proofs.Common.{sym, ◌∙◌, arith}
use Rattle.pulse.specs.PulseLaws.{fitting}
use Rattle.pulse.proofs.pulse_length.Goals as goal

pub fitting_length-requires : goal.fitting_length-requires
fitting_length-requires c =
    let a = c.args in
    let f = fitting a.samples a.pulse (sym c.fits_in.ensures ∙ c.if-fits_in.true) in
    (omega (arith, f.to, f.short), f.from, f.some)

pub returns-then-fits_in : goal.returns-then-fits_in
returns-then-fits_in c = rw (sym c.fits_in.ensures ∙ c.if-fits_in.true) c.fitting_length.ensures

pub returns-else-fits_in : goal.returns-else-fits_in
returns-else-fits_in c = rw (sym c.fits_in.ensures ∙ c.if-fits_in.false)
