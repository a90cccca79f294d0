-- `scalers::frames::overs` meets its contract: each channel's answer stands at its place.
use Rattle.std.proofs.Common.{get_or, ◌∙◌, arith, rules, tests}
use Rattle.ground.specs.MadeLaws.{made}
use Rattle.samples.specs.Sample.{is_over}
use Rattle.scalers.specs.Scalers.{overs_of}
use Rattle.scalers.specs.FrameLaws.{length_overs, overs_at}
use Rattle.scalers.proofs.frames.overs.Goals as goal

pub returns : goal.returns
returns c =
    let ts = c.args.thresholds.now in
    let frame = c.args.frame.now in
    made _ _ 16 (λ i. is_over (get_or ts i 0) (get_or frame i 0)) (λ i y q h k. search (rules, tests)) c.from_fn.result (overs_of ts frame) c.from_fn.ensures.items
    (length_overs ts frame (omega (arith, c.requires)) ∙ c.requires.1)
    (λ i d l. overs_at ts frame i d (omega (arith, l, c.requires)) (omega (arith, l, c.requires)))
