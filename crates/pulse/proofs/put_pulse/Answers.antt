-- `pulse::put_pulse` meets its contract: what does not fit in the window or has no room is not written.
use Rattle.std.proofs.Common.{◌+◌, ◌≡◌, sym, ◌∙◌, true, arith, ltb-true, ltb-false, length}
use Rattle.ground.specs.WritingLaws.{not_asked}
use Rattle.items.specs.ItemsLaws.{put_wrote, put_nothing}
use Rattle.pulse.specs.Pulse.{pulse_items, pulse_length, fits_in}
use Rattle.pulse.specs.Inner.{Fitting}
use Rattle.pulse.specs.PulseLaws.{fitting, length_pulse}
use Rattle.pulse.proofs.put_pulse.Goals as goal
use Rattle.pulse.proofs.put_pulse.Goals.{Else-not-fits_in}

-- where the second test is made
module _ (c : Else-not-fits_in) where
  asked : fits_in (length c.args.row.now) c.args.pulse ≡ true
  asked = sym c.fits_in.ensures ∙ c.if-not-fits_in.false

  fit : Fitting (length c.args.row.now) c.args.pulse
  fit = fitting (length c.args.row.now) c.args.pulse asked

  size : length (pulse_items c.args.parts c.args.channel c.args.row.now c.args.i c.args.pulse) ≡ pulse_length c.args.parts c.args.pulse
  size = length_pulse c.args.parts c.args.channel c.args.row.now c.args.i c.args.pulse fit.from fit.to

pub returns-then-not-fits_in : goal.returns-then-not-fits_in
returns-then-not-fits_in c = not_asked (sym c.fits_in.ensures ∙ c.if-not-fits_in.true)

pub fitting_length-requires : goal.fitting_length-requires
fitting_length-requires c = (omega (arith, (fit c).to, (fit c).short), (fit c).from, (fit c).some)

pub returns-then-room_short : goal.returns-then-room_short
returns-then-room_short c =
    let a = c.args in
    put_nothing (pulse_items a.parts a.channel a.row.now a.i a.pulse)
    (omega (
      arith,
      size (goal.at.returns-then-room_short c).Else-not-fits_in,
      c.fitting_length.ensures,
      ltb-true (length a.words.now) (a.at + c.fitting_length.result) (sym c.room_short.ensures ∙ c.if-room_short.true),
    ))

pub put_fitting-requires : goal.put_fitting-requires
put_fitting-requires c =
    let a = c.args in
    let e = (goal.at.put_fitting-requires c).Else-not-fits_in in
    record {
      fitting = fit e;
      pulse_in_bounds =
          omega (
            arith,
            size e,
            c.fitting_length.ensures,
            ltb-false (length a.words.now) (a.at + c.fitting_length.result) (sym c.room_short.ensures ∙ c.if-room_short.false),
          );
    }

pub returns : goal.returns
returns c =
    let a = c.args in
    let e = (goal.at.returns c).Else-not-fits_in in
    put_wrote (pulse_items a.parts a.channel a.row.now a.i a.pulse) (asked e)
    (omega (
      arith,
      size e,
      c.fitting_length.ensures,
      ltb-false (length a.words.now) (a.at + c.fitting_length.result) (sym c.room_short.ensures ∙ c.if-room_short.false),
    ))
    c.put_fitting.ensures
