-- The store and its rows: document 01, "One event, one store". Assumes nothing.
use Rattle.std.specs.Prelude.{ℕ, ◌+◌, ◌*◌, Bool, true, not, ◌&&◌, ◌||◌, List, [], ◌∷◌, length, take, drop, leb}
use Rattle.ground.specs.Tests.{all_of}
use Rattle.limits.specs.Limits.{channels}
use Rattle.settings.specs.declared.Settings.{Settings}
use Rattle.settings.specs.Ranges.{settings_ok}
use Rattle.samples.specs.Sample.{samples_ok}

-- "The host lends the store, 16 rows of NW samples, row c from place c x NW."
unfoldable pub row : ℕ → ℕ → List ℕ → List ℕ
row nw c store = take nw (drop (c * nw) store)

-- what is lent is enough for an event: settings in range, a mark for each of at most sixteen channels, and those 16 rows
unfoldable pub lent_ok : Settings → List Bool → List ℕ → Bool
lent_ok s posted store = all_of (settings_ok s ∷ leb (length posted) channels ∷ leb (channels * s.nw) (length store) ∷ [])

-- no sample over 8,191 "in a posted channel's row of the store then lent", from channel c on
unfoldable pub rows_ok : ℕ → List ℕ → ℕ → List Bool → Bool
rows_ok nw store c [] = true
rows_ok nw store c (posted ∷ more) = (not posted || samples_ok (row nw c store)) && rows_ok nw store (c + 1) more

-- a proof that computes opens this file and what it leans on by one name
unfoldable pub all_open : Unit {0}
unfolding row lent_ok rows_ok Rattle.ground.specs.Tests.all_open Rattle.limits.specs.Limits.all_open Rattle.settings.specs.Ranges.all_open Rattle.samples.specs.Sample.all_open
all_open = tt
