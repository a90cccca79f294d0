-- Document 01, "The words": samples as they came, row by row. A row lists the fields from the highest bit down, as the paper does; beside it stand the record
-- that a word holds, and what the reader asks of it. Assumes nothing.
use Rattle.std.specs.Prelude.{ℕ, Bool, ◌&&◌, List, [], ◌∷◌, eqb, leb}
use Rattle.fields.specs.Word.{Field, bits, read}
use Rattle.fields.specs.Tag.{defining, continuation}
use Rattle.limits.specs.Limits.{most_samples}
use Rattle.raw.specs.declared.window.WindowRaw.{WindowRaw}
use Rattle.raw.specs.declared.pulse_raw.PulseRaw.{PulseRaw}
use Rattle.raw.specs.declared.pair.SamplePair.{SamplePair}

-- "4 window: 26-23 channel, 22-12 zero, 11-0 width 1-500"
unfoldable pub window : WindowRaw → List Field
window r = defining 4 (bits 26 23 r.channel ∷ bits 22 12 0 ∷ bits 11 0 r.width ∷ [])

unfoldable pub window_of : ℕ → WindowRaw
window_of word = record { channel = read 26 23 word; width = read 11 0 word }

-- the bits shown zero are zero
unfoldable pub window_fixed : ℕ → Bool
window_fixed word = eqb (read 22 12 word) 0

-- width 1-500
unfoldable pub window_within : WindowRaw → Bool
window_within r = leb 1 r.width && leb r.width most_samples

-- "6 pulse raw: 26-23 channel, 22-21 pulse, 20-10 zero, 9-0 TC"
unfoldable pub pulse_raw : PulseRaw → List Field
pulse_raw r = defining 6 (bits 26 23 r.channel ∷ bits 22 21 r.pulse ∷ bits 20 10 0 ∷ bits 9 0 r.tc ∷ [])

unfoldable pub pulse_raw_of : ℕ → PulseRaw
pulse_raw_of word = record { channel = read 26 23 word; pulse = read 22 21 word; tc = read 9 0 word }

-- the bits shown zero are zero
unfoldable pub pulse_raw_fixed : ℕ → Bool
pulse_raw_fixed word = eqb (read 20 10 word) 0

-- "Pairs after 4 and 6: bit 30 zero, 29 first not valid, 28-16 first sample, 15-14 zero, 13 second not valid, 12-0 second"
unfoldable pub pair : SamplePair → List Field
pair r = continuation (bits 30 30 0 ∷ bits 29 29 r.nofirst ∷ bits 28 16 r.first ∷ bits 15 14 0 ∷ bits 13 13 r.nosecond ∷ bits 12 0 r.second ∷ [])

unfoldable pub pair_of : ℕ → SamplePair
pair_of word = record { nofirst = read 29 29 word; first = read 28 16 word; nosecond = read 13 13 word; second = read 12 0 word }

-- the bits shown zero are zero
unfoldable pub pair_fixed : ℕ → Bool
pair_fixed word = eqb (read 30 30 word) 0 && eqb (read 15 14 word) 0

-- a proof that computes opens this file and what it leans on by one name
unfoldable pub all_open : Unit {0}
unfolding window window_of window_fixed window_within pulse_raw pulse_raw_of pulse_raw_fixed pair pair_of pair_fixed Rattle.fields.specs.Word.all_open Rattle.fields.specs.Tag.all_open Rattle.limits.specs.Limits.all_open
all_open = tt
