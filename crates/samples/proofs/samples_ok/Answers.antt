-- `samples::samples_ok` meets its contract. The invariant: what is before the rest passed. Assumes nothing.
use Rattle.std.proofs.Common.{sym, ◌∙◌, arith, rules}
use Rattle.samples.specs.SampleLaws.{none_passed, more_passed, one_fails, all_passed}
use Rattle.samples.proofs.samples_ok.Goals as goal

pub loop-chunk-init : goal.loop-chunk-init
loop-chunk-init c =
    let w = c.args.window.now in
    (search rules, none_passed w _ (search rules))

pub returns-then-not-part_ok : goal.returns-then-not-part_ok
returns-then-not-part_ok c =
    sym (one_fails c.loop-chunk.invariant.1 _ _ c.in-Some.ensures.steps.1.0 (sym c.part_ok-in-loop-chunk.ensures ∙ c.if-not-part_ok.true))

pub loop-chunk-preserved : goal.loop-chunk-preserved
loop-chunk-preserved c =
    (search rules, more_passed c.loop-chunk.invariant.1 _ _ c.in-Some.ensures.steps.1.0 (sym c.part_ok-in-loop-chunk.ensures ∙ c.if-not-part_ok.false))

pub returns : goal.returns
returns c = all_passed c.loop-chunk.invariant.1 _ _ (omega (arith, c.in-None.ensures.steps.1.0)) c.part_ok-2.ensures
