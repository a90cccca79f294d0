use Rattle.std.proofs.Common.{length, ◌-◌, ◌≡◌, ◌≤◌}
use Rattle.lister.proofs.read_all.Given as goal

-- what is read fills the buffer from its start
abbrev pub invariant-loop-done : goal.invariant-loop-done
invariant-loop-done g l = (length l.input ≡ length l.initial.input) × (l.done ≤ length l.input)

abbrev pub decreases-loop-done : goal.decreases-loop-done
decreases-loop-done g l = length l.initial.input - l.done
