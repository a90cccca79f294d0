-- What one channel writes: document 01, "The words", as lists of records. Assumes nothing.
use Rattle.std.specs.Prelude.{ℕ, ◌+◌, ◌*◌, Bool, true, false, cond, ◌&&◌, ◌||◌, List, [], ◌∷◌, ◌++◌, length, eqb}
use Rattle.limits.specs.Limits.{pairs_of}
use Rattle.settings.specs.declared.Settings.{Settings}
use Rattle.finder.specs.declared.Pulse.{Pulse}
use Rattle.search.specs.Search.{any_over}
use Rattle.finder.specs.Find.{pulses_from}
use Rattle.pairs.specs.Pairs.{pair_items}
use Rattle.items.specs.Items.{words_of}
use Rattle.items.specs.declared.Item.{Item}
use Rattle.items.specs.declared.Item.TheVariants as I
use Rattle.pulse.specs.declared.Parts.{Parts}
use Rattle.modes.specs.declared.Common.{Common}
use Rattle.pulse.specs.Pulse.{pulse_items, set_length}

-- ---- samples

-- type 4: the channel's whole window
unfoldable pub window_items : ℕ → List ℕ → List Item
window_items c w = I.Window (record { channel = c; width = length w }) ∷ pair_items w

-- ---- what a mode writes

abbrev pub parts : Bool → Bool → Bool → Bool → Bool → Bool → Parts
parts window raw integral time high pedestal =
    record { window = window; raw = raw; integral = integral; time = time; high = high; pedestal = pedestal }

-- "mode 1, if any sample is over, type 4. Mode 2, type 6. Mode 3, 7 then 8 with TC and fine 0. Mode 4, 8 then 10. Mode 7, 7, 8, 10.
-- Mode 8, the window as in mode 1, then 8, 10."
abbrev pub mode_table : List (ℕ × Parts)
mode_table =
    --        window  raw  integral time  high pedestal
    (1, parts true false false false false false)
    ∷ (2, parts false true false false false false)
    ∷ (3, parts false false true true false false)
    ∷ (4, parts false false false true true true)
    ∷ (7, parts false false true true true true)
    ∷ (8, parts true false false true true true)
    ∷ []

abbrev pub row_of_mode : List (ℕ × Parts) → ℕ → Parts
row_of_mode [] mode = parts false false false false false false
row_of_mode (r ∷ rs) mode = cond (eqb mode r.0) r.1 (row_of_mode rs mode)

unfoldable pub parts_of : ℕ → Parts
parts_of mode = row_of_mode mode_table mode

-- the mode writes something of a pulse
unfoldable pub of_pulses : Parts → Bool
of_pulses m = ((m.raw || m.integral) || m.time) || m.pedestal

-- as many pulses as the mode writes of
abbrev pub limit_for : Parts → ℕ → ℕ
limit_for m limit = cond (of_pulses m) limit 0

-- "Pulses in order", numbered from i
unfoldable pub pulses_items : Parts → ℕ → List ℕ → ℕ → List Pulse → List Item
pulses_items m c w i [] = []
pulses_items m c w i (p ∷ ps) = pulse_items m c w i p ++ pulses_items m c w (i + 1) ps

-- ---- one channel

-- the settings that all channels share and that decide a channel's words
abbrev pub common_of : Settings → Common
common_of s = record { mode = s.mode; nsb = s.nsb; nsa = s.nsa; limit = s.limit }

abbrev pub pulses_of : Common → ℕ → List ℕ → List Pulse
pulses_of s t w = pulses_from w t s.nsb s.nsa s.limit 0

-- a channel's records: of the common settings, its own threshold, its number and its window, and of nothing else
unfoldable pub channel_items : Common → ℕ → ℕ → List ℕ → List Item
channel_items s t c w =
    cond ((parts_of s.mode).window && any_over w t) (window_items c w) []
    ++ pulses_items (parts_of s.mode) c w 0 (pulses_of s t w)

abbrev pub channel_words : Common → ℕ → ℕ → List ℕ → List ℕ
channel_words s t c w = words_of (channel_items s t c w)

-- ---- how many words at most

-- no channel of n samples takes more: its window, and of each of three pulses what the mode writes where the data set is as long
abbrev pub parts_most : Parts → ℕ → ℕ
parts_most m n = cond m.window (1 + pairs_of n) 0 + 3 * set_length m n

unfoldable pub mode_most : ℕ → ℕ → ℕ
mode_most mode n = parts_most (parts_of mode) n

-- a proof that computes opens this file and what it leans on by one name
unfoldable pub all_open : Unit {0}
unfolding window_items parts_of of_pulses pulses_items channel_items mode_most Rattle.search.specs.Search.all_open Rattle.finder.specs.Find.all_open Rattle.items.specs.Items.all_open Rattle.pulse.specs.Pulse.all_open
all_open = tt
