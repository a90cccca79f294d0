-- What is written of one pulse: document 01, "The words", as lists of records. Assumes nothing.
use Rattle.std.specs.Prelude.{ℕ, ◌+◌, ◌-◌, min, Bool, cond, List, [], ◌∷◌, ◌++◌, take, drop, leb, ltb}
use Rattle.ground.specs.Tests.{all_of}
use Rattle.limits.specs.Limits.{most_samples, pairs_of}
use Rattle.finder.specs.declared.Pulse.{Pulse}
use Rattle.pairs.specs.Pairs.{pair_items}
use Rattle.items.specs.Items.{item_if}
use Rattle.items.specs.declared.Item.{Item}
use Rattle.items.specs.declared.Item.TheVariants as I
use Rattle.pulse.specs.declared.Parts.{Parts}

-- ---- its samples

-- the samples of a pulse's data set
unfoldable pub set_of : List ℕ → Pulse → List ℕ
set_of w p = take (p.last + 1 - p.first) (drop (p.first - 1) w)

-- type 6: a pulse's data set
unfoldable pub raw_items : ℕ → List ℕ → ℕ → Pulse → List Item
raw_items c w i p = I.Raw (record { channel = c; pulse = i; tc = p.tc }) ∷ pair_items (set_of w p)

-- ---- what is measured of a pulse

-- "Written: min(sum, 524,287), with quality 1 if the sum was greater, else 0. All other quality fields are 0."
unfoldable pub integral_item : ℕ → ℕ → Pulse → Item
integral_item c i p = I.Integral (record { channel = c; pulse = i; quality = cond (ltb 524287 p.sum) 1 0; sum = min p.sum 524287 })

-- the high-resolution time, or "TC and fine 0"
unfoldable pub time_item : Bool → ℕ → ℕ → Pulse → Item
time_item high c i p =
    I.Time (record { channel = c; pulse = i; quality = 0; coarse = cond high p.time.coarse p.tc; fine = cond high p.time.fine 0 })

-- "VMIN is written as min(VMIN, 511)."
unfoldable pub pedestal_item : ℕ → ℕ → Pulse → Item
pedestal_item c i p = I.Pedestal (record { channel = c; pulse = i; vmin = min p.time.vmin 511; vpeak = p.time.vpeak })

-- ---- all that a mode writes of it

-- one pulse, the i-th
unfoldable pub pulse_items : Parts → ℕ → List ℕ → ℕ → Pulse → List Item
pulse_items m c w i p =
    cond m.raw (raw_items c w i p) []
    ++ (item_if m.integral (integral_item c i p)
    ++ (item_if m.time (time_item m.high c i p)
    ++ item_if m.pedestal (pedestal_item c i p)))

-- ---- how many words, without the words

abbrev pub one_if : Bool → ℕ
one_if on = cond on 1 0

-- of a pulse whose data set has n samples
unfoldable pub set_length : Parts → ℕ → ℕ
set_length m n = cond m.raw (1 + pairs_of n) 0 + (one_if m.integral + (one_if m.time + one_if m.pedestal))

unfoldable pub pulse_length : Parts → Pulse → ℕ
pulse_length m p = set_length m (p.last + 1 - p.first)

-- ---- of which window

-- the pulse's numbers are of a window of n samples, and there is such a window
unfoldable pub fits_in : ℕ → Pulse → Bool
fits_in n p =
    all_of (leb p.tc n ∷ leb 1 p.first ∷ leb p.first p.last ∷ leb p.last n ∷ leb p.time.coarse n ∷ leb n most_samples ∷ [])

-- a proof that computes opens this file and what it leans on by one name
unfoldable pub all_open : Unit {0}
unfolding set_of raw_items integral_item time_item pedestal_item pulse_items set_length pulse_length fits_in Rattle.ground.specs.Tests.all_open Rattle.limits.specs.Limits.all_open Rattle.items.specs.Items.all_open
all_open = tt
