-- Document 01, "Reading": what is asked of a word, in the paper's order. What is asked of its fields is said of the record. Assumes nothing.
use Rattle.std.specs.Prelude.{ℕ, ◌+◌, ◌%◌, Bool, false, not, cond, ◌&&◌, ◌||◌, List, [], ◌∷◌, eqb}
use Rattle.ground.specs.Tests.{first_of}
use Rattle.framing.specs.Words.{block_header_within}
use Rattle.raw.specs.Words.{window_within}
use Rattle.items.specs.Items.{item_from, fixed_in}
use Rattle.items.specs.declared.Form.{Form}
use Rattle.items.specs.declared.Item.{Item}
use Rattle.items.specs.declared.Item.TheVariants as I
use Rattle.scan.specs.declared.Stage.{Stage}
use Rattle.scan.specs.declared.Stage.TheVariants as P
use Rattle.scan.specs.declared.Scan.{Scan}
use Rattle.meaning.specs.declared.Meaning.{Meaning}
use Rattle.meaning.specs.declared.Meaning.TheVariants as M
use Rattle.meaning.specs.Meaning.{is_unallowed, unfinished}

-- "14 if no trailer was read and its place is 4,194,303"
unfoldable pub at_limit : Scan → Bool
at_limit s = unfinished s && eqb s.place 4194303

-- "15 slot differs"
abbrev pub slot_wrong : Scan → Item → Bool
slot_wrong s (I.Block r) = false
slot_wrong s (I.Parameters r) = false
slot_wrong s (I.Trailer r) = not (eqb r.slot s.slot)
slot_wrong s (I.Event r) = not (eqb r.slot s.slot)
slot_wrong s (I.Clock r) = false
slot_wrong s (I.ClockHigh r) = false
slot_wrong s (I.Window r) = false
slot_wrong s (I.Raw r) = false
slot_wrong s (I.Pair r) = false
slot_wrong s (I.Integral r) = false
slot_wrong s (I.Time r) = false
slot_wrong s (I.Pedestal r) = false
slot_wrong s (I.Empty r) = false
slot_wrong s (I.Filler r) = not (eqb r.slot s.slot)
slot_wrong s (I.Scalers r) = false
slot_wrong s (I.Scaler r) = false

abbrev pub time_by : Stage → ℕ → Bool
time_by P.Start high = false
time_by P.Head high = false
time_by P.Front high = false
time_by P.Opened high = false
time_by (P.Timed d) high = not (eqb (high % 8) d)
time_by P.Items high = false
time_by (P.Window n odd) high = false
time_by (P.Raw n some) high = false
time_by (P.Tail n) high = false
time_by (P.Scalers n) high = false

-- "time bits 26-24 unequal": the second time word holds bits 47-24
abbrev pub time_wrong : Scan → ℕ → Bool
time_wrong s high = time_by s.stage high

abbrev pub flag_by : Stage → ℕ → Bool
flag_by P.Start flag = false
flag_by P.Head flag = false
flag_by P.Front flag = false
flag_by P.Opened flag = false
flag_by (P.Timed d) flag = false
flag_by P.Items flag = false
flag_by (P.Window n odd) flag = not (eqb flag (cond (eqb n 1 && odd) 1 0))
flag_by (P.Raw n some) flag = false
flag_by (P.Tail n) flag = false
flag_by (P.Scalers n) flag = false

-- "a sample flag anywhere but bit 13 at the odd end, that flag absent at type 4's odd end"; in type 6 any pair may be the odd end
abbrev pub flag_wrong : Scan → ℕ → Bool
flag_wrong s flag = flag_by s.stage flag

-- "13 .. events 0, width off, time bits 26-24 unequal, a sample flag .., a flagged sample not 0"
abbrev pub item_wrong : Scan → Item → Bool
item_wrong s (I.Block r) = not (block_header_within r)
item_wrong s (I.Parameters r) = false
item_wrong s (I.Trailer r) = false
item_wrong s (I.Event r) = false
item_wrong s (I.Clock r) = false
item_wrong s (I.ClockHigh r) = time_wrong s r.high
item_wrong s (I.Window r) = not (window_within r)
item_wrong s (I.Raw r) = false
item_wrong s (I.Pair r) = not (eqb r.nofirst 0) || ((eqb r.nosecond 1 && not (eqb r.second 0)) || flag_wrong s r.nosecond)
item_wrong s (I.Integral r) = false
item_wrong s (I.Time r) = false
item_wrong s (I.Pedestal r) = false
item_wrong s (I.Empty r) = false
item_wrong s (I.Filler r) = false
item_wrong s (I.Scalers r) = false
item_wrong s (I.Scaler r) = false

-- "14 an event header beyond the stated events, a trailer before them, a wrong trailer count"
abbrev pub count_wrong : Scan → Item → Bool
count_wrong s (I.Block r) = false
count_wrong s (I.Parameters r) = false
count_wrong s (I.Trailer r) = not (eqb s.left 0) || not (eqb r.words (s.place + 1))
count_wrong s (I.Event r) = eqb s.left 0
count_wrong s (I.Clock r) = false
count_wrong s (I.ClockHigh r) = false
count_wrong s (I.Window r) = false
count_wrong s (I.Raw r) = false
count_wrong s (I.Pair r) = false
count_wrong s (I.Integral r) = false
count_wrong s (I.Time r) = false
count_wrong s (I.Pedestal r) = false
count_wrong s (I.Empty r) = false
count_wrong s (I.Filler r) = false
count_wrong s (I.Scalers r) = false
count_wrong s (I.Scaler r) = false

-- asked of the record that the word holds; where none may stand there is nothing to ask
abbrev pub of_form : (Form → Bool) → Meaning → Bool
of_form wrong (M.Form f) = wrong f
of_form wrong M.Unallowed = false
of_form wrong M.End = false

-- "At each word, in this order: 14 ..; 12 ..; 15 ..; 13 a bit shown zero is set, module not 1, ..; 14 .." (11, no word left, is the end's)
abbrev pub refusals : Scan → Meaning → ℕ → List (ℕ × Bool)
refusals s m word =
    (14, at_limit s)
    ∷ (12, is_unallowed m)
    ∷ (15, of_form (λ f. slot_wrong s (item_from f word)) m)
    ∷ (13, of_form (λ f. not (fixed_in f word) || item_wrong s (item_from f word)) m)
    ∷ (14, of_form (λ f. count_wrong s (item_from f word)) m)
    ∷ []

unfoldable pub refusal_of : Scan → Meaning → ℕ → ℕ
refusal_of s m word = first_of (refusals s m word)

-- a proof that computes opens this file and what it leans on by one name
unfoldable pub all_open : Unit {0}
unfolding at_limit refusal_of Rattle.ground.specs.Tests.all_open Rattle.framing.specs.Words.all_open Rattle.raw.specs.Words.all_open Rattle.items.specs.Items.all_open Rattle.meaning.specs.Meaning.all_open
all_open = tt
