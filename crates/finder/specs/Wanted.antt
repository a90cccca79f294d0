-- A pulse with no more of it than is wanted, its time by any base. The paper's definitions are those of Find; PulsesLaws of `channel` shows that a mode writes
-- the same by these. Assumes nothing.
use Rattle.std.specs.Prelude.{ℕ, Bool, cond, Option, List, [], ◌∷◌, length, leb}
use Rattle.ground.specs.Tests.{all_of}
use Rattle.search.specs.Search.{over}
use Rattle.timing.specs.declared.Time.{Time}
use Rattle.timing.specs.Integral.{integral}
use Rattle.timing.specs.ByBase.{time_from}
use Rattle.finder.specs.declared.Pulse.{Pulse}
use Rattle.finder.specs.Find.{set_first, set_last}

-- the pulse at TC of that time: its sum where it is wanted, else 0
unfoldable pub pulse_of : Bool → List ℕ → ℕ → ℕ → ℕ → Time → Pulse
pulse_of sums w nsb nsa tc time =
    let first : ℕ = set_first tc nsb in
    let last : ℕ = set_last tc nsa (length w) in
    record { tc = tc; first = first; last = last; sum = cond sums (integral w first last) 0; time = time }

-- its time by a base: TC alone where there is none
unfoldable pub pulse_from : Bool → List ℕ → Option ℕ → ℕ → ℕ → ℕ → Pulse
pulse_from sums w b nsb nsa tc = pulse_of sums w nsb nsa tc (time_from w b tc)

-- sample k is one of the window, and over
unfoldable pub is_tc : List ℕ → ℕ → ℕ → Bool
is_tc w t k = all_of (leb 1 k ∷ leb k (length w) ∷ over w t k ∷ [])
