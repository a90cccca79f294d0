-- `pulse::set_length` meets its contract: half of a number and a few words more is a number.
use Rattle.std.proofs.Common.{ℕ, ◌+◌, ◌/◌, ◌≤◌, Bool, true, false, cond, arith}
use Rattle.limits.specs.Limits.{pairs_of}
use Rattle.limits.proofs.LimitsLaws.{pairs_is}
use Rattle.pulse.specs.Pulse.{set_length, one_if}
use Rattle.pulse.specs.PulseLaws.{one_is}
use Rattle.pulse.proofs.set_length.Goals as goal

halves : (on : Bool) (n : ℕ) → cond on (1 + pairs_of n) 0 ≤ 1 + (n + 1) / 2
halves true n = omega (arith, pairs_is n)
halves false n = omega arith

one_le : (on : Bool) → one_if on ≤ 1
one_le true = omega arith
one_le false = omega arith

pub overflow_add-result-3 : goal.overflow_add-result-3
overflow_add-result-3 c =
    let p = c.args.parts in
    rw (c.from-integral.ensures, c.from-time.ensures, c.from-pedestal.ensures, one_is p.integral, one_is p.time, one_is p.pedestal)
    (omega (
      arith,
      c.run_length_if-run.ensures,
      halves p.raw c.args.samples,
      one_le p.integral,
      one_le p.time,
      one_le p.pedestal,
      c.ranges.samples.fits,
    ))

pub returns : goal.returns
unfolding set_length
returns c =
    let p = c.args.parts in
    rw (c.run_length_if-run.ensures, c.from-integral.ensures, c.from-time.ensures, c.from-pedestal.ensures, one_is p.integral, one_is p.time, one_is p.pedestal)
