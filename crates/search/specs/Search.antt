-- Where a pulse is: document 01, "Finding pulses". "Samples are numbered from 1", so 0 says that a search found none. Assumes nothing.
use Rattle.std.specs.Prelude.{ℕ, zero, suc, ◌-◌, Bool, not, ◌&&◌, ◌||◌, List, length, get_or, ltb}
use Rattle.ground.specs.Search.{least}
use Rattle.samples.specs.Sample.{amp, is_over}

-- V(k), the amplitude of sample k
unfoldable pub amp_at : List ℕ → ℕ → ℕ
amp_at w k = amp (get_or w (k - 1) 0)

-- sample k is over
unfoldable pub over : List ℕ → ℕ → ℕ → Bool
over w t k = is_over t (get_or w (k - 1) 0)

-- "First pulse: TC is the least number that is over." Of the first n samples.
unfoldable pub first_over : List ℕ → ℕ → ℕ → ℕ
first_over w t n = least (over w t) 0 n

-- one of the first n samples is over
unfoldable pub over_in : List ℕ → ℕ → ℕ → Bool
over_in w t n = ltb 0 (first_over w t n)

-- "if any sample is over"
abbrev pub any_over : List ℕ → ℕ → Bool
any_over w t = over_in w t (length w)

-- "that is over and whose neighbour k-1 is not over"
unfoldable pub starts : List ℕ → ℕ → ℕ → Bool
starts w t k = over w t k && not (over w t (k - 1))

-- "Next pulse: with s = TC + NSA, the next TC is the least k, s < k <= NW, that is over and whose neighbour k-1 is not over."
unfoldable pub next_tc : List ℕ → ℕ → ℕ → ℕ
next_tc w t s = least (starts w t) s (length w)

-- the TC that the search from s finds; s is 0 for the first pulse
unfoldable pub tc_from : List ℕ → ℕ → ℕ → ℕ
tc_from w t zero = first_over w t (length w)
tc_from w t (suc s) = next_tc w t (suc s)

-- "1. NW < 4, or one of the first four samples is over"
unfoldable pub early : List ℕ → ℕ → Bool
early w t = ltb (length w) 4 || over_in w t 4

-- a proof that computes opens this file and what it leans on by one name
unfoldable pub all_open : Unit {0}
unfolding amp_at over first_over over_in starts next_tc tc_from early Rattle.ground.specs.Search.all_open Rattle.samples.specs.Sample.all_open
all_open = tt
