-- `modes::count::pulses_length` meets its contract: what is counted and what is left are the whole.
use Rattle.std.proofs.Common.{◌+◌, ◌≡◌, drop}
use Rattle.modes.specs.Inner.{pulses_length}
use Rattle.modes.proofs.count.pulses_length.Given as goal

abbrev pub invariant-loop-pulse : goal.invariant-loop-pulse
invariant-loop-pulse l = l.n + pulses_length l.parts (drop l.pulse-index l.pulse-items) ≡ pulses_length l.parts l.pulse-items
