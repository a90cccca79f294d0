-- What private functions of this crate say and ask; no public contract cites it. Assumes nothing.
use Rattle.std.specs.Prelude.{ℕ, ◌+◌, ◌≤◌, cond, ◌&&◌, List, [], ◌∷◌, length, take}
use Rattle.limits.specs.Limits.{pairs_of}
use Rattle.finder.specs.declared.Pulse.{Pulse}
use Rattle.finder.specs.declared.Pulses.{Pulses}
use Rattle.search.specs.Search.{any_over}
use Rattle.finder.specs.RangeLaws.{EachFits}
use Rattle.pulse.specs.declared.Parts.{Parts}
use Rattle.pulse.specs.Pulse.{pulse_length}
use Rattle.modes.specs.declared.Common.{Common}
use Rattle.modes.specs.Channel.{parts_of, pulses_of}

-- the pulses that stand in the three places
abbrev pub listed : Pulses → List Pulse
listed found = take found.count found.pulses

-- the pulses are of a window of n samples, and there are no more than the places
pub record InWindow (n : ℕ) (found : Pulses) : Type 0 where
  pub few : found.count ≤ 3
  pub stored : found.count ≤ length found.pulses
  pub each : EachFits n (listed found)

-- ---- how many words, without the words

unfoldable pub pulses_length : Parts → List Pulse → ℕ
pulses_length m [] = 0
pulses_length m (p ∷ ps) = pulse_length m p + pulses_length m ps

unfoldable pub channel_length : Common → ℕ → List ℕ → ℕ
channel_length s t w =
    cond ((parts_of s.mode).window && any_over w t) (1 + pairs_of (length w)) 0 + pulses_length (parts_of s.mode) (pulses_of s t w)
