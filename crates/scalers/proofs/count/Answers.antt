-- `scalers::count` meets its contract: frames seen in parts, then the timer's groups.
use Rattle.std.proofs.Common.{◌≡◌, length, refl, arith, rules}
use Rattle.scalers.specs.Scalers.{frames_in, frames_of, count_frames}
use Rattle.scalers.specs.CountLaws.{to_count, count_turn, count_end, all_counted}
use Rattle.scalers.proofs.count.Goals as goal

pub returns-then-frames-eq0 : goal.returns-then-frames-eq0
unfolding frames_of frames_in count_frames
returns-then-frames-eq0 c = rw c.if-frames-eq0.true

pub loop-part-init : goal.loop-part-init
loop-part-init c =
    let lanes : length c.args.s.over ≡ 16 = search rules in
    (search rules, to_count c.narrowed-narrow.result c.args.s c.args.samples.now _ lanes (search rules))

pub loop-part-preserved : goal.loop-part-preserved
loop-part-preserved c =
    let inv = c.loop-part.invariant in
    let seen = c.see_frames-seen in
    let step = c.in-Some.ensures.steps.1 in
    let lanes : length seen.result.over ≡ 16 = search rules in
    (search rules, rw c.added-sums.ensures (count_turn inv.1 _ _ step.0 (rw inv.0 at step.1) step.2 lanes seen.ensures.rises_value seen.ensures.over_value))

pub returns : goal.returns
returns c =
    let done = count_end c.loop-part.invariant.1 c.in-None.ensures.steps.1.0 in
    all_counted c.args.thresholds c.narrowed-narrow.result c.args.s c.args.samples.now c.loop-part.counts _ c.loop-part.over (omega (arith, c.if-frames-eq0.false)) c.narrowed-narrow.ensures done.0 done.1 refl
