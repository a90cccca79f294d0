-- `samples::part_ok` meets its contract. The invariant: what was tested tells of the samples so far. Assumes nothing.
use Rattle.std.proofs.Common.{sym, arith}
use Rattle.samples.specs.SampleLaws.{no_samples, samples_more}
use Rattle.samples.proofs.part_ok.Goals as goal

pub loop-sample-init : goal.loop-sample-init
loop-sample-init c = sym no_samples

pub loop-sample-preserved : goal.loop-sample-preserved
loop-sample-preserved c = rw c.loop-sample.invariant (sym (samples_more c.args.part.now c.loop-sample.sample-index (omega arith)))
