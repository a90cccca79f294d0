-- Document 01, "The words": the words around the channels, row by row; an event's scalers are document 02's. A row lists the fields from the highest bit down, as the paper does; beside it stand the record
-- that a word holds, and what the reader asks of it. Assumes nothing.
use Rattle.std.specs.Prelude.{ℕ, Bool, ◌&&◌, List, [], ◌∷◌, eqb, leb}
use Rattle.fields.specs.Word.{Field, bits, read}
use Rattle.fields.specs.Tag.{defining, continuation}
use Rattle.framing.specs.declared.block_header.BlockHeader.{BlockHeader}
use Rattle.framing.specs.declared.parameters.Parameters.{Parameters}
use Rattle.framing.specs.declared.trailer.BlockTrailer.{BlockTrailer}
use Rattle.framing.specs.declared.event_header.EventHeader.{EventHeader}
use Rattle.framing.specs.declared.trigger_time.TriggerTime.{TriggerTime}
use Rattle.framing.specs.declared.trigger_time_high.TriggerTimeHigh.{TriggerTimeHigh}
use Rattle.framing.specs.declared.scalers.ScalerHeader.{ScalerHeader}
use Rattle.framing.specs.declared.scaler.ScalerWord.{ScalerWord}
use Rattle.framing.specs.declared.empty.ModuleEmpty.{ModuleEmpty}
use Rattle.framing.specs.declared.filler.Filler.{Filler}

-- "0 block header: 26-22 slot, 21-18 module 1, 17-8 block number, 7-0 events 1-255"
unfoldable pub block_header : BlockHeader → List Field
block_header r = defining 0 (bits 26 22 r.slot ∷ bits 21 18 1 ∷ bits 17 8 r.number ∷ bits 7 0 r.events ∷ [])

unfoldable pub block_header_of : ℕ → BlockHeader
block_header_of word = record { slot = read 26 22 word; number = read 17 8 word; events = read 7 0 word }

-- the module is 1
unfoldable pub block_header_fixed : ℕ → Bool
block_header_fixed word = eqb (read 21 18 word) 1

-- events 1-255
unfoldable pub block_header_within : BlockHeader → Bool
block_header_within r = leb 1 r.events && leb r.events 255

-- "0, parameters (continuation): 30-29 zero, 28-18 PL, 17-9 NSB, 8-0 NSA"
unfoldable pub parameters : Parameters → List Field
parameters r = continuation (bits 30 29 0 ∷ bits 28 18 r.pl ∷ bits 17 9 r.nsb ∷ bits 8 0 r.nsa ∷ [])

unfoldable pub parameters_of : ℕ → Parameters
parameters_of word = record { pl = read 28 18 word; nsb = read 17 9 word; nsa = read 8 0 word }

-- the bits shown zero are zero
unfoldable pub parameters_fixed : ℕ → Bool
parameters_fixed word = eqb (read 30 29 word) 0

-- "1 trailer: 26-22 slot, 21-0 words from header to trailer, both counted"
unfoldable pub trailer : BlockTrailer → List Field
trailer r = defining 1 (bits 26 22 r.slot ∷ bits 21 0 r.words ∷ [])

unfoldable pub trailer_of : ℕ → BlockTrailer
trailer_of word = record { slot = read 26 22 word; words = read 21 0 word }

-- "2 event header: 26-22 slot, 21-0 event number"
unfoldable pub event_header : EventHeader → List Field
event_header r = defining 2 (bits 26 22 r.slot ∷ bits 21 0 r.number ∷ [])

unfoldable pub event_header_of : ℕ → EventHeader
event_header_of word = record { slot = read 26 22 word; number = read 21 0 word }

-- "3 trigger time: 26-24 time bits 26-24, 23-0 time bits 23-0"
unfoldable pub trigger_time : TriggerTime → List Field
trigger_time r = defining 3 (bits 26 24 r.middle ∷ bits 23 0 r.low ∷ [])

unfoldable pub trigger_time_of : ℕ → TriggerTime
trigger_time_of word = record { middle = read 26 24 word; low = read 23 0 word }

-- "3, second (continuation): 30-24 zero, 23-0 time bits 47-24"
unfoldable pub trigger_time_high : TriggerTimeHigh → List Field
trigger_time_high r = continuation (bits 30 24 0 ∷ bits 23 0 r.high ∷ [])

unfoldable pub trigger_time_high_of : ℕ → TriggerTimeHigh
trigger_time_high_of word = record { high = read 23 0 word }

-- the bits shown zero are zero
unfoldable pub trigger_time_high_fixed : ℕ → Bool
trigger_time_high_fixed word = eqb (read 30 24 word) 0

-- 02: "type 12 (bits 26-6 zero, 5-0 = 18)"; "the reader takes the stated count, 0 to 63"
unfoldable pub scalers : ScalerHeader → List Field
scalers r = defining 12 (bits 26 6 0 ∷ bits 5 0 r.count ∷ [])

unfoldable pub scalers_of : ℕ → ScalerHeader
scalers_of word = record { count = read 5 0 word }

-- the bits shown zero are zero
unfoldable pub scalers_fixed : ℕ → Bool
scalers_fixed word = eqb (read 26 6 word) 0

-- 02: "the latched words .. They carry no tag": all bits are the count
unfoldable pub scaler : ScalerWord → List Field
scaler r = bits 31 0 r.value ∷ []

unfoldable pub scaler_of : ℕ → ScalerWord
scaler_of word = record { value = read 31 0 word }

-- "14 module empty: 26-22 slot, rest undefined, written 0"
unfoldable pub empty : ModuleEmpty → List Field
empty r = defining 14 (bits 26 22 r.slot ∷ bits 21 0 0 ∷ [])

unfoldable pub empty_of : ℕ → ModuleEmpty
empty_of word = record { slot = read 26 22 word }

-- "15 filler: 26-22 slot, rest undefined, written 0"
unfoldable pub filler : Filler → List Field
filler r = defining 15 (bits 26 22 r.slot ∷ bits 21 0 0 ∷ [])

unfoldable pub filler_of : ℕ → Filler
filler_of word = record { slot = read 26 22 word }

-- a proof that computes opens this file and what it leans on by one name
unfoldable pub all_open : Unit {0}
unfolding block_header block_header_of block_header_fixed block_header_within parameters parameters_of parameters_fixed trailer trailer_of event_header event_header_of trigger_time trigger_time_of trigger_time_high trigger_time_high_of trigger_time_high_fixed scalers scalers_of scalers_fixed scaler scaler_of empty empty_of filler filler_of Rattle.fields.specs.Word.all_open Rattle.fields.specs.Tag.all_open
all_open = tt
