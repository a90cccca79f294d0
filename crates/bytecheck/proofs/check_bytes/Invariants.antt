-- `bytecheck::check_bytes` meets its contract.
use Rattle.std.proofs.Common.{◌*◌, ◌/◌, ◌≤◌, ◌-◌, ◌≡◌, length, drop}
use Rattle.reader.specs.Reader.{check_from}
use Rattle.scan.specs.After.{start_of}
use Rattle.fields.specs.Bytes.{words_of_bytes}
use Rattle.bytecheck.proofs.check_bytes.Given as goal

abbrev pub invariant-loop-k : goal.invariant-loop-k
invariant-loop-k l = (4 * l.k ≤ length l.bytes) × (check_from start_of (words_of_bytes l.bytes) ≡ check_from l.scan (drop l.k (words_of_bytes l.bytes)))

abbrev pub decreases-loop-k : goal.decreases-loop-k
decreases-loop-k l = length l.bytes / 4 - l.k
