-- The pulses of one window: document 01, "Finding pulses". Assumes nothing.
use Rattle.std.specs.Prelude.{ℕ, zero, suc, ◌+◌, ◌-◌, min, max, Bool, cond, List, [], ◌∷◌, length, replicate, leb, eqb}
use Rattle.std.proofs.lemmas.List.Edits.{sets}
use Rattle.ground.specs.Tests.{all_of}
use Rattle.limits.specs.Limits.{most_samples}
use Rattle.settings.specs.Ranges.{most_nsa, most_limit}
use Rattle.search.specs.Search.{tc_from}
use Rattle.timing.specs.declared.Rule.TheVariants.{Early}
use Rattle.timing.specs.Integral.{integral}
use Rattle.timing.specs.Time.{tc_only, time_at}
use Rattle.finder.specs.declared.Pulse.{Pulse}
use Rattle.finder.specs.declared.Pulses.{Pulses}

-- ---- its data set

-- "Data set: max(TC - NSB, 1) to min(TC + NSA - 1, NW)."
abbrev pub set_first : ℕ → ℕ → ℕ
set_first tc nsb = max (tc - nsb) 1

abbrev pub set_last : ℕ → ℕ → ℕ → ℕ
set_last tc nsa nw = min (tc + nsa - 1) nw

-- ---- all pulses

-- the pulse at TC
unfoldable pub pulse_at : List ℕ → ℕ → ℕ → ℕ → ℕ → Pulse
pulse_at w t nsb nsa tc =
    let first : ℕ = set_first tc nsb in
    let last : ℕ = set_last tc nsa (length w) in
    record { tc = tc; first = first; last = last; sum = integral w first last; time = time_at w t tc }

-- "Stop at the limit or when there is none." At most n pulses, from s on.
unfoldable pub pulses_from : List ℕ → ℕ → ℕ → ℕ → ℕ → ℕ → List Pulse
pulses_from w t nsb nsa zero s = []
pulses_from w t nsb nsa (suc n) s =
    let tc : ℕ = tc_from w t s in
    cond (eqb tc 0) [] (pulse_at w t nsb nsa tc ∷ pulses_from w t nsb nsa n (tc + nsa))

-- what stands where there is no pulse
unfoldable pub no_pulse : Pulse
no_pulse = record { tc = 0; first = 0; last = 0; sum = 0; time = tc_only 0 0 Early }

-- "Pulses are numbered from 0." A list of pulses in three places
unfoldable pub packed : List Pulse → Pulses
packed l = record { count = length l; pulses = sets (replicate 3 no_pulse) 0 l }

-- what settings in range say of a search: the samples, NSA and the limit
unfoldable pub searchable : ℕ → ℕ → ℕ → Bool
searchable n nsa limit = all_of (leb n most_samples ∷ leb 1 nsa ∷ leb nsa most_nsa ∷ leb limit most_limit ∷ [])

-- the pulses alone, for a caller that made the refusals itself
unfoldable pub find_all : List ℕ → ℕ → ℕ → ℕ → ℕ → Pulses
find_all w t nsb nsa limit = packed (cond (searchable (length w) nsa limit) (pulses_from w t nsb nsa limit 0) [])

-- a proof that computes opens this file and what it leans on by one name
unfoldable pub all_open : Unit {0}
unfolding pulse_at pulses_from no_pulse packed searchable find_all Rattle.ground.specs.Tests.all_open Rattle.limits.specs.Limits.all_open Rattle.settings.specs.Ranges.all_open Rattle.search.specs.Search.all_open Rattle.timing.specs.Integral.all_open Rattle.timing.specs.Time.all_open
all_open = tt
