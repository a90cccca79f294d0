-- `scalers::frames::see_frames` meets its contract: a frame a turn.
use Rattle.std.proofs.Common.{◌≡◌, length, ap, ◌∙◌, length-append, arith, rules}
use Rattle.scalers.specs.FrameLaws.{under_le}
use Rattle.scalers.specs.CountLaws.{to_see, see_turn, see_end}
use Rattle.scalers.proofs.frames.see_frames.Goals as goal

pub loop-frame-init : goal.loop-frame-init
loop-frame-init c =
    (search rules, to_see c.args.thresholds.now c.args.before c.args.frames.now _ (omega (arith, c.well_formed)) (search rules))

pub see_frame-requires : goal.see_frame-requires
see_frame-requires c =
    let head = c.loop-frame in
    let i = head.invariant.1 in
    let step = c.in-Some.ensures.steps in
    let size : length c.in-Some.frame.now ≡ 16 = step.1.1 ∙ head.invariant.0 in
    record {
      rises_len = i.lanes;
      thresholds_len = (c.requires.0, size);
      under = under_le i.done 65534 head.rises (omega (arith, i.within, c.requires.1, size, ap length step.1.0, length-append c.in-Some.frame.now c.next.new.self.rest.now)) i.few;
    }

pub loop-frame-preserved : goal.loop-frame-preserved
loop-frame-preserved c =
    let step = c.in-Some.ensures.steps in
    (search rules, see_turn c.loop-frame.invariant.1 _ c.requires.0 step.1.0 (step.1.1 ∙ c.loop-frame.invariant.0) c.see_frame.ensures.rises_after c.see_frame.ensures.over_after)

pub returns : goal.returns
returns c =
    let end = see_end c.loop-frame.invariant.1 (omega (arith, c.in-None.ensures.steps.1.0)) in
    record { rises_value = end.0; over_value = end.1 }
