-- What the inner functions ask. Assumes nothing.
use Rattle.std.specs.Prelude.{ℕ, ◌<◌, ◌≤◌, get_or}
use Rattle.finder.specs.declared.Pulse.{Pulse}
use Rattle.finder.specs.declared.Pulses.{Pulses}
use Rattle.finder.specs.Find.{no_pulse}

-- a pulse's places are 32-bit numbers
pub record Small (p : Pulse) : Type 0 where
  pub tc : p.tc < 4294967296
  pub first : p.first < 4294967296
  pub last : p.last < 4294967296
  pub coarse : p.time.coarse < 4294967296

-- at most three pulses, and such are their places
pub record AllSmall (found : Pulses) : Type 0 where
  pub count : found.count ≤ 3
  pub each : (i : ℕ) → i < found.count → Small (get_or found.pulses i no_pulse)
