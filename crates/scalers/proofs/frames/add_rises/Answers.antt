-- `scalers::frames::add_rises` meets its contract: what each channel has seen is stored at its place.
use Rattle.std.proofs.Common.{◌≡◌, ℕ, ◌+◌, get_or, sym, refl, ◌∙◌, ap₂, zero-add, arith}
use Rattle.ground.specs.CopyLaws.{copy_start, copy_turn, copy_ahead, copy_end}
use Rattle.ground.specs.SpliceLaws.{splice_all}
use Rattle.ground.specs.TestsLaws.{under_at}
use Rattle.scalers.specs.Scalers.{rises_of}
use Rattle.scalers.specs.Inner.{plus_of}
use Rattle.scalers.specs.FrameLaws.{length_rises, rises_at, length_plus, plus_at}
use Rattle.scalers.proofs.frames.add_rises.Goals as goal

pub loop-channel-init : goal.loop-channel-init
loop-channel-init c = copy_start _ _ _

pub overflow_add-rises : goal.overflow_add-rises
overflow_add-rises c =
    let head = c.loop-channel in
    let a = c.args in
    let rises = length_rises a.before.now a.now.now (omega (arith, c.requires)) in
    let all = length_plus a.rises.now (rises_of a.before.now a.now.now) (omega (arith, rises, c.requires)) in
    let same = copy_ahead head.invariant 0 refl (omega (arith, all, c.requires)) in
    omega (arith, same, under_at 65534 a.rises.now head.channel c.requires.under, c.rise.ensures.1)

pub loop-channel-preserved : goal.loop-channel-preserved
loop-channel-preserved c =
    let head = c.loop-channel in
    let a = c.args in
    let i = head.channel in
    let more = rises_of a.before.now a.now.now in
    let rises = length_rises a.before.now a.now.now (omega (arith, c.requires)) in
    let all = length_plus a.rises.now more (omega (arith, rises, c.requires)) in
    let seen = copy_ahead head.invariant 0 refl (omega (arith, all, c.requires)) in
    let rise : c.rise.result ≡ get_or more i 0 = c.rise.ensures.0 ∙ sym (rises_at a.before.now a.now.now i (omega (arith, c.requires)) (omega (arith, c.requires))) in
    let sum : get_or head.rises i 0 + c.rise.result ≡ get_or (plus_of a.rises.now more) i 0 = ap₂ (λ (m n : ℕ). m + n) seen rise ∙ sym (plus_at a.rises.now more i (omega (arith, c.requires)) (omega (arith, rises, c.requires))) in
    rw sum (copy_turn head.invariant i 0 (sym (zero-add _)) (omega (arith, all, c.requires)) (omega (arith, c.requires)))

pub returns : goal.returns
returns c =
    let a = c.args in
    let more = rises_of a.before.now a.now.now in
    let rises = length_rises a.before.now a.now.now (omega (arith, c.requires)) in
    let all = length_plus a.rises.now more (omega (arith, rises, c.requires)) in
    copy_end c.loop-channel.invariant (omega (arith, all, c.requires)) ∙ splice_all a.rises.now (plus_of a.rises.now more) all
