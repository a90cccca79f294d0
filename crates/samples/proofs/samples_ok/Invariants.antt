-- `samples::samples_ok` meets its contract. The invariant: what is before the rest passed. Assumes nothing.
use Rattle.std.proofs.Common.{◌≡◌}
use Rattle.samples.specs.SampleLaws.{Passed}
use Rattle.samples.proofs.samples_ok.Given as goal

abbrev pub invariant-loop-chunk : goal.invariant-loop-chunk
invariant-loop-chunk l = (l.chunk-iterator.size ≡ 64) × Passed l.window l.chunk-iterator.rest.now
