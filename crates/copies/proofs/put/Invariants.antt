-- `copies::put` meets its contract. Assumes nothing.
use Rattle.std.proofs.Common.{◌+◌, ◌≤◌, length}
use Rattle.ground.specs.CopyLaws.{Copied}
use Rattle.copies.proofs.put.Given as goal

abbrev pub invariant-loop-i : goal.invariant-loop-i
invariant-loop-i g l = (l.at + length l.new ≤ length l.initial.out) × Copied l.initial.out l.at l.new l.out l.i
