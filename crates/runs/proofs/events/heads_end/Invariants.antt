-- `runs::events::heads_end` meets its contract. The invariant: all before is passed.
use Rattle.std.proofs.Common.{◌-◌, ◌≤◌}
use Rattle.fields.specs.Bytes.{words_of_bytes}
use Rattle.runs.specs.Runs.{PassedTo}
use Rattle.runs.proofs.events.heads_end.Given as goal

abbrev pub invariant-loop-passed : goal.invariant-loop-passed
invariant-loop-passed l = (l.k ≤ l.end) × PassedTo (words_of_bytes l.bytes) l.slot l.from l.left l.k (l.left - l.passed)
