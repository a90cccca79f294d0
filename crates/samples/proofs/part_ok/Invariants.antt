-- `samples::part_ok` meets its contract. The invariant: what was tested tells of the samples so far. Assumes nothing.
use Rattle.std.proofs.Common.{◌≡◌, take}
use Rattle.samples.specs.Sample.{samples_ok}
use Rattle.samples.proofs.part_ok.Given as goal

abbrev pub invariant-loop-sample : goal.invariant-loop-sample
invariant-loop-sample l = l.good ≡ samples_ok (take l.sample-index l.part)
