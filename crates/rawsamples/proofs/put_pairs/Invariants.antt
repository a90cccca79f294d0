-- `rawsamples::put_pairs` meets its contract: the array with the samples that are left is the array asked for.
use Rattle.std.proofs.Common.{◌≡◌, length, drop}
use Rattle.written.specs.Page.{put}
use Rattle.rawsamples.specs.RawSamples.{samples_of}
use Rattle.rawsamples.proofs.put_pairs.Given as goal

abbrev pub invariant-loop-word : goal.invariant-loop-word
invariant-loop-word l = (length l.out ≡ length l.initial.out) × (put (l.initial.out, 0) (samples_of l.words) ≡ put (l.out, l.at) (samples_of (drop l.word-index l.words)))
