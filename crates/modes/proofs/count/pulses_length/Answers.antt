-- `modes::count::pulses_length` meets its contract: what is counted and what is left are the whole.
use Rattle.std.proofs.Common.{◌+◌, ◌≡◌, drop, arith, zero-add}
use Rattle.limits.proofs.LimitsLaws.{most_pulse_lem}
use Rattle.modes.specs.Inner.{listed, pulses_length}
use Rattle.modes.specs.InnerLaws.{place_in, count_turn, count_end}
use Rattle.modes.specs.BoundLaws.{found_most}
use Rattle.modes.proofs.count.pulses_length.Goals as goal
use Rattle.modes.proofs.count.pulses_length.Goals.{After-pulse_length-n}

pub loop-pulse-init : goal.loop-pulse-init
loop-pulse-init c = zero-add _

-- one more is counted
turn : (c : After-pulse_length-n) → c.loop-pulse.n + c.pulse_length-n.result + pulses_length c.args.parts (drop (c.loop-pulse.pulse-index + 1) (listed c.args.found)) ≡ pulses_length c.args.parts (listed c.args.found)
turn c =
    let pre = c.requires in
    let i = c.loop-pulse.pulse-index in
    count_turn c.args.parts (listed c.args.found) i c.loop-pulse.n _ _ _
    (rw (place_in _ (listed c.args.found) i _ pre.0.each pre.1 c.loop-pulse-test.true) at c.pulse_length-n.ensures) c.loop-pulse-test.true c.loop-pulse.invariant

pub overflow_add-n : goal.overflow_add-n
overflow_add-n c =
    let pre = c.requires in
    omega (arith, most_pulse_lem, found_most c.args.parts _ _ pre.1 pre.0, turn (goal.at.overflow_add-n c).After-pulse_length-n)

pub loop-pulse-preserved : goal.loop-pulse-preserved
loop-pulse-preserved c = turn (goal.at.loop-pulse-preserved c).After-pulse_length-n

pub returns : goal.returns
returns c =
    let pre = c.requires in
    let e = count_end c.args.parts (listed c.args.found) c.loop-pulse.pulse-index _ _ c.loop-pulse-test.false c.loop-pulse.invariant in
    (e, omega (arith, e, found_most c.args.parts _ _ pre.1 pre.0))
