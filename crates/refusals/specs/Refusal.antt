-- The paper's number of each refusal: document 01, the tables of "One event, one store" and of "Reading"; 19 is document 02's. Assumes nothing.
use Rattle.std.specs.Prelude.{ℕ, cond, eqb}
use Rattle.std.specs.declared.result.Result.{Result}
use Rattle.std.specs.declared.result.Result.TheVariants.{Ok, Err}
use Rattle.refusals.specs.declared.Refusal.{Refusal}
use Rattle.refusals.specs.declared.Refusal.TheVariants.{Setting, Store, Sample, Channel, Length, Posted, Turn, Number, Room, State, Missing, Unallowed, Bits, Count, Slot, Bytes, Frames}

-- "given exactly when": the words behind each number are the table's
abbrev pub number_of : Refusal → ℕ
-- "a setting out of range"
number_of Setting = 1
-- "store shorter than 16 x NW"
number_of Store = 2
-- "a sample over 8,191"
number_of Sample = 3
-- "channel over 15"
number_of Channel = 4
-- "window length is not NW"
number_of Length = 5
-- "channel already posted in this event"
number_of Posted = 6
-- "out of turn"
number_of Turn = 7
-- "block number over 1,023, events not 1-255, event number over 4,194,303, time over 2^48 - 1"
number_of Number = 8
-- "word buffer too short for all that call writes after the words already counted"
number_of Room = 9
-- "state breaks its ranges"
number_of State = 10
-- "no word left"
number_of Missing = 11
-- "type not allowed here, pair missing or too many"
number_of Unallowed = 12
-- "a bit shown zero is set, module not 1, events 0, width off, time bits 26-24 unequal, a sample flag .., a flagged sample not 0"
number_of Bits = 13
-- "an event header beyond the stated events, a trailer before them, a wrong trailer count"
number_of Count = 14
-- "slot differs"
number_of Slot = 15
-- the input's bytes are no words
number_of Bytes = 16
-- 02: "19 frame data not a multiple of sixteen"
number_of Frames = 19

-- what a call answers that gives nothing but whether it is refused
abbrev pub Outcome : Type 0
Outcome = Result Unit Refusal

-- what is told of a call: 0 is no refusal
abbrev pub told : {A : Type 0} → Result A Refusal → ℕ
told (Ok x) = 0
told (Err r) = number_of r

-- from C: an array is not as long as the header says, or holds what it cannot hold. It is no number of the paper's table
abbrev pub bad_array : ℕ
bad_array = 64

-- what is left where the number is 0, the call accepted, and where it is not: "Every other refusal hands back the same state; store and words stay as lent."
abbrev pub if_accepted : {A : Type 0} → ℕ → A → A → A
if_accepted number new old = cond (eqb number 0) new old

-- a refusal, or where there is none a later one
abbrev pub or_else : ℕ → ℕ → ℕ
or_else number later = if_accepted number later number
