-- `finder::pulse_at` meets its contract: by the window's own base the time is what it is. Assumes nothing.
use Rattle.std.proofs.Common.{◌∙◌}
use Rattle.timing.specs.TimeLaws.{in_window_lem}
use Rattle.finder.specs.Wanted.{pulse_from}
use Rattle.finder.specs.FindLaws.{from_all}
use Rattle.finder.proofs.pulse_at.Goals as goal

pub returns : goal.returns
unfolding pulse_from
returns c =
    let o = c.requires.over in
    let time = rw (in_window_lem _ _ o.from o.to, c.base_of-base.ensures) at c.time_from-time.ensures in
    rw time at c.pulse_of.ensures ∙ from_all _ _ _ _ _ o
