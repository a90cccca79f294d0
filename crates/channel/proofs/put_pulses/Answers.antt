-- `channel::put_pulses` meets its contract: in a turn what is left begins with the pulse that is found.
use Rattle.std.proofs.Common.{arith}
use Rattle.limits.proofs.LimitsLaws.{most_samples_lem}
use Rattle.search.specs.SearchLaws.{tc_over}
use Rattle.finder.specs.FindLaws.{searched}
use Rattle.channel.specs.PulsesLaws.{pulse_first, pulse_full, pulse_none, pulse_less}
use Rattle.channel.proofs.put_pulses.Goals as goal

pub loop-i-init : goal.loop-i-init
loop-i-init c = pulse_first _ _ _ _ _ _ _ _ _ (searched _ _ _ c.requires.limit_value.0) c.requires.limit_in_bounds

pub shape_of-words-then-tc-eq0 : goal.shape_of-words-then-tc-eq0
shape_of-words-then-tc-eq0 c = c.loop-i.invariant.size

pub returns-then-tc-eq0 : goal.returns-then-tc-eq0
returns-then-tc-eq0 c =
    let pre = c.requires in
    pulse_none _ _ _ _ _ _ _ _ _ (searched _ _ _ pre.limit_value.0) pre.limit_in_bounds c.loop-i.words c.loop-i.next c.loop-i.i c.loop-i.s _ c.loop-i-test.true c.tc_after-tc.ensures c.if-tc-eq0.true c.loop-i.invariant

pub overflow_cast-i : goal.overflow_cast-i
overflow_cast-i c =
    omega (arith, searched _ _ _ c.requires.limit_value.0, c.loop-i-test.true)

pub overflow_add-s : goal.overflow_add-s
overflow_add-s c =
    let pre = c.requires in
    omega (arith, most_samples_lem, searched _ _ _ pre.limit_value.0, tc_over _ _ _ _ c.tc_after-tc.ensures c.if-tc-eq0.false)

pub loop-i-preserved : goal.loop-i-preserved
loop-i-preserved c =
    let pre = c.requires in
    pulse_less _ _ _ _ _ _ _ _ _ (searched _ _ _ pre.limit_value.0) pre.limit_in_bounds c.loop-i.words c.loop-i.next c.loop-i.i c.loop-i.s _ c.loop-i-test.true c.tc_after-tc.ensures c.if-tc-eq0.false _ (rw c.base_if-base.ensures at c.pulse_with-pulse.ensures) _ _ c.put_pulse-next.ensures c.loop-i.invariant

pub shape_of-words : goal.shape_of-words
shape_of-words c = c.loop-i.invariant.size

pub returns : goal.returns
returns c =
    let pre = c.requires in
    pulse_full _ _ _ _ _ _ _ _ _ (searched _ _ _ pre.limit_value.0) pre.limit_in_bounds c.loop-i.words c.loop-i.next c.loop-i.i c.loop-i.s c.loop-i-test.false c.loop-i.invariant

pub tc_after-tc-requires : goal.tc_after-tc-requires
tc_after-tc-requires c = c.requires.limit_value.1
