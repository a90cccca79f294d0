-- `finder::all_pulses` meets its contract. The invariant: the pulses that stand and those to come are the answer. Assumes nothing.
use Rattle.std.proofs.Common.{◌≡◌, sym, ◌∙◌, arith}
use Rattle.finder.specs.FindLaws.{find_start, find_full, find_none, find_turn}
use Rattle.search.specs.Asked.{IsOver}
use Rattle.search.specs.SearchLaws.{tc_over}
use Rattle.finder.proofs.all_pulses.Goals as goal
use Rattle.finder.proofs.all_pulses.Goals.{Else-tc-eq0}

pub loop-count-init : goal.loop-count-init
loop-count-init c = find_start _ _ _ _ _ _ c.no_pulse-none.ensures

pub returns-then-tc-eq0 : goal.returns-then-tc-eq0
returns-then-tc-eq0 c =
    sym (c.loop-count.invariant ∙ find_none _ _ _ _ _ _ _ _ c.loop-count-test.true (sym c.tc_from-tc.ensures ∙ c.if-tc-eq0.true))

over_at : (c : Else-tc-eq0) → IsOver c.args.window.now c.args.threshold c.tc_from-tc.result
over_at c = tc_over _ _ _ _ c.tc_from-tc.ensures c.if-tc-eq0.false

pub pulse_at-requires : goal.pulse_at-requires
pulse_at-requires c = record { over = over_at c; window_len_bound = (c.requires.0, c.requires.2) }

pub overflow_add-s : goal.overflow_add-s
overflow_add-s c = omega (arith, over_at (goal.at.overflow_add-s c).Else-tc-eq0, c.requires)

pub loop-count-preserved : goal.loop-count-preserved
loop-count-preserved c =
    c.loop-count.invariant ∙ find_turn _ _ _ _ _ _ _ _ _ _ c.loop-count-test.true c.tc_from-tc.ensures c.if-tc-eq0.false c.pulse_at.ensures

pub returns : goal.returns
returns c =
    let e : c.loop-count.count ≡ c.args.limit = omega arith in
    sym (c.loop-count.invariant ∙ rw e (find_full _ _ _ _ _ _ _ _ (omega arith)))
