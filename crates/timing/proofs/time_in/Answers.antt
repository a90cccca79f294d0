-- `timing::time_in` meets its contract, rule by rule. Assumes nothing.
use Rattle.std.proofs.Common.{sym, ◌∙◌, arith, length}
use Rattle.ground.specs.SearchLaws.{IsLeast, least_found}
use Rattle.timing.specs.Time.{falls, first_fall}
use Rattle.timing.specs.TimeLaws.{from_early, from_late, from_flat, from_edge}
use Rattle.timing.proofs.time_in.Goals as goal

pub overflow_sub-fall : goal.overflow_sub-fall
overflow_sub-fall c = omega (arith, c.if-fall-eq0.false)

pub edge_time-requires : goal.edge_time-requires
unfolding first_fall
edge_time-requires c =
    let r : IsLeast (falls c.args.window.now) c.args.tc (length c.args.window.now) c.first_fall-fall.result = least_found _ _ _ _ c.first_fall-fall.ensures (omega (arith, c.if-fall-eq0.false)) in
    (omega (arith, r.after, c.requires), omega (arith, r.within))

pub returns-in_default : goal.returns-in_default
returns-in_default c = rw c.in_default.is (c.tc_only.ensures ∙ sym (from_early _ _))

pub returns-then-window-tc-lt5 : goal.returns-then-window-tc-lt5
returns-then-window-tc-lt5 c =
    rw c.in-Some.is (c.tc_only-then-window-tc-lt5.ensures ∙ sym (from_late _ _ _ c.if-window-tc-lt5.true))

pub returns-then-fall-eq0 : goal.returns-then-fall-eq0
returns-then-fall-eq0 c =
    rw c.in-Some.is
    (c.tc_only-then-fall-eq0.ensures ∙ sym (from_flat _ _ _ _ c.if-window-tc-lt5.false c.first_fall-fall.ensures c.if-fall-eq0.true))

pub returns : goal.returns
returns c =
    rw c.in-Some.is
    (c.edge_time.ensures ∙ sym (from_edge _ _ _ _ c.if-window-tc-lt5.false c.first_fall-fall.ensures c.if-fall-eq0.false))
