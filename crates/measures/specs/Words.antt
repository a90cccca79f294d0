-- Document 01, "The words": what is measured of a pulse, row by row. A row lists the fields from the highest bit down, as the paper does; beside it stand the record
-- that a word holds, and what the reader asks of it. Assumes nothing.
use Rattle.std.specs.Prelude.{ℕ, Bool, List, [], ◌∷◌, eqb}
use Rattle.fields.specs.Word.{Field, bits, read}
use Rattle.fields.specs.Tag.{defining}
use Rattle.measures.specs.declared.integral.PulseIntegral.{PulseIntegral}
use Rattle.measures.specs.declared.time.PulseTime.{PulseTime}
use Rattle.measures.specs.declared.pedestal.PulsePedestal.{PulsePedestal}

-- "7 integral: 26-23 channel, 22-21 pulse, 20-19 quality, 18-0"
unfoldable pub integral : PulseIntegral → List Field
integral r = defining 7 (bits 26 23 r.channel ∷ bits 22 21 r.pulse ∷ bits 20 19 r.quality ∷ bits 18 0 r.sum ∷ [])

unfoldable pub integral_of : ℕ → PulseIntegral
integral_of word = record { channel = read 26 23 word; pulse = read 22 21 word; quality = read 20 19 word; sum = read 18 0 word }

-- "8 time: 26-23, 22-21, 20-19 quality, 18-15 zero, 14-6 coarse, 5-0 fine"
unfoldable pub time : PulseTime → List Field
time r = defining 8 (bits 26 23 r.channel ∷ bits 22 21 r.pulse ∷ bits 20 19 r.quality ∷ bits 18 15 0 ∷ bits 14 6 r.coarse ∷ bits 5 0 r.fine ∷ [])

unfoldable pub time_of : ℕ → PulseTime
time_of word = record { channel = read 26 23 word; pulse = read 22 21 word; quality = read 20 19 word; coarse = read 14 6 word; fine = read 5 0 word }

-- the bits shown zero are zero
unfoldable pub time_fixed : ℕ → Bool
time_fixed word = eqb (read 18 15 word) 0

-- "10 pedestal: 26-23, 22-21, 20-12 VMIN, 11-0 VPEAK"
unfoldable pub pedestal : PulsePedestal → List Field
pedestal r = defining 10 (bits 26 23 r.channel ∷ bits 22 21 r.pulse ∷ bits 20 12 r.vmin ∷ bits 11 0 r.vpeak ∷ [])

unfoldable pub pedestal_of : ℕ → PulsePedestal
pedestal_of word = record { channel = read 26 23 word; pulse = read 22 21 word; vmin = read 20 12 word; vpeak = read 11 0 word }

-- a proof that computes opens this file and what it leans on by one name
unfoldable pub all_open : Unit {0}
unfolding integral integral_of time time_of time_fixed pedestal pedestal_of Rattle.fields.specs.Word.all_open Rattle.fields.specs.Tag.all_open
all_open = tt
