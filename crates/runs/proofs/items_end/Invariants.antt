-- `runs::items_end` meets its contract. The invariant: all before is passed.
use Rattle.std.proofs.Common.{◌-◌, ◌≤◌}
use Rattle.fields.specs.Bytes.{words_of_bytes}
use Rattle.runs.specs.Runs.{Passed}
use Rattle.runs.proofs.items_end.Given as goal

abbrev pub invariant-loop-k : goal.invariant-loop-k
invariant-loop-k l = (l.k ≤ l.end) × Passed (words_of_bytes l.bytes) l.from l.k

abbrev pub decreases-loop-k : goal.decreases-loop-k
decreases-loop-k l = l.end - l.k
