-- The named records of the format. What is written and what is read are lists of these. Assumes nothing.
use Rattle.std.specs.Prelude.{ℕ, ◌*◌, ◌/◌, ◌^◌, Bool, true, cond, List, [], ◌∷◌, eqb}
use Rattle.fields.specs.Word.{Field, pack, fit}
use Rattle.fields.specs.Tag.{is_defining, is_continuation}
use Rattle.framing.specs.Words.{block_header, block_header_of, block_header_fixed, parameters, parameters_of, parameters_fixed, trailer, trailer_of, event_header, event_header_of, trigger_time, trigger_time_of, trigger_time_high, trigger_time_high_of, trigger_time_high_fixed, scalers, scalers_of, scalers_fixed, scaler, scaler_of, empty, empty_of, filler, filler_of}
use Rattle.raw.specs.Words.{window, window_of, window_fixed, pulse_raw, pulse_raw_of, pulse_raw_fixed, pair, pair_of, pair_fixed}
use Rattle.measures.specs.Words.{integral, integral_of, time, time_of, time_fixed, pedestal, pedestal_of}
use Rattle.items.specs.declared.Form.{Form}
use Rattle.items.specs.declared.Form.TheVariants as F
use Rattle.items.specs.declared.Item.{Item}
use Rattle.items.specs.declared.Item.TheVariants as I

-- the row of document 01's table that a record is written by
abbrev pub row_of : Item → List Field
row_of (I.Block r) = block_header r
row_of (I.Parameters r) = parameters r
row_of (I.Trailer r) = trailer r
row_of (I.Event r) = event_header r
row_of (I.Clock r) = trigger_time r
row_of (I.ClockHigh r) = trigger_time_high r
row_of (I.Window r) = window r
row_of (I.Raw r) = pulse_raw r
row_of (I.Pair r) = pair r
row_of (I.Integral r) = integral r
row_of (I.Time r) = time r
row_of (I.Pedestal r) = pedestal r
row_of (I.Empty r) = empty r
row_of (I.Filler r) = filler r
row_of (I.Scalers r) = scalers r
row_of (I.Scaler r) = scaler r

-- a record's word
unfoldable pub word_of : Item → ℕ
word_of x = pack (row_of x)

abbrev pub words_of : List Item → List ℕ
words_of [] = []
words_of (x ∷ xs) = word_of x ∷ words_of xs

-- the record where it is wanted, and nothing where it is not
abbrev pub item_if : Bool → Item → List Item
item_if on x = cond on (x ∷ []) []

-- every field is within its width
unfoldable pub fits : Item → Bool
fits x = fit (row_of x)

-- the form that a record is read by
abbrev pub form_of : Item → Form
form_of (I.Block r) = F.Block
form_of (I.Parameters r) = F.Parameters
form_of (I.Trailer r) = F.Trailer
form_of (I.Event r) = F.Event
form_of (I.Clock r) = F.Clock
form_of (I.ClockHigh r) = F.ClockHigh
form_of (I.Window r) = F.Window
form_of (I.Raw r) = F.Raw
form_of (I.Pair r) = F.Pair
form_of (I.Integral r) = F.Integral
form_of (I.Time r) = F.Time
form_of (I.Pedestal r) = F.Pedestal
form_of (I.Empty r) = F.Empty
form_of (I.Filler r) = F.Filler
form_of (I.Scalers r) = F.Scalers
form_of (I.Scaler r) = F.Scaler

-- the record that a word of that form holds
abbrev pub item_from : Form → ℕ → Item
item_from F.Block word = I.Block (block_header_of word)
item_from F.Parameters word = I.Parameters (parameters_of word)
item_from F.Trailer word = I.Trailer (trailer_of word)
item_from F.Event word = I.Event (event_header_of word)
item_from F.Clock word = I.Clock (trigger_time_of word)
item_from F.ClockHigh word = I.ClockHigh (trigger_time_high_of word)
item_from F.Window word = I.Window (window_of word)
item_from F.Raw word = I.Raw (pulse_raw_of word)
item_from F.Pair word = I.Pair (pair_of word)
item_from F.Integral word = I.Integral (integral_of word)
item_from F.Time word = I.Time (time_of word)
item_from F.Pedestal word = I.Pedestal (pedestal_of word)
item_from F.Empty word = I.Empty (empty_of word)
item_from F.Filler word = I.Filler (filler_of word)
item_from F.Scalers word = I.Scalers (scalers_of word)
item_from F.Scaler word = I.Scaler (scaler_of word)

-- the bits that a word of that form shows fixed are as shown: zero, and module 1
abbrev pub fixed_in : Form → ℕ → Bool
fixed_in F.Block word = block_header_fixed word
fixed_in F.Parameters word = parameters_fixed word
fixed_in F.Trailer word = true
fixed_in F.Event word = true
fixed_in F.Clock word = true
fixed_in F.ClockHigh word = trigger_time_high_fixed word
fixed_in F.Window word = window_fixed word
fixed_in F.Raw word = pulse_raw_fixed word
fixed_in F.Pair word = pair_fixed word
fixed_in F.Integral word = true
fixed_in F.Time word = time_fixed word
fixed_in F.Pedestal word = true
fixed_in F.Empty word = true
fixed_in F.Filler word = true
fixed_in F.Scalers word = scalers_fixed word
fixed_in F.Scaler word = true

-- a word of that form with its undefined bits as zero: "14 module empty, 15 filler: 26-22 slot, rest undefined, written 0"
abbrev pub clean_of : Form → ℕ → ℕ
clean_of F.Block word = word
clean_of F.Parameters word = word
clean_of F.Trailer word = word
clean_of F.Event word = word
clean_of F.Clock word = word
clean_of F.ClockHigh word = word
clean_of F.Window word = word
clean_of F.Raw word = word
clean_of F.Pair word = word
clean_of F.Integral word = word
clean_of F.Time word = word
clean_of F.Pedestal word = word
clean_of F.Empty word = word / 2 ^ 22 * 2 ^ 22
clean_of F.Filler word = word / 2 ^ 22 * 2 ^ 22
clean_of F.Scalers word = word
clean_of F.Scaler word = word

-- the fields of a row that are its tag: "A defining word has bit 31 set and its type in bits 30-27. A continuation word has bit 31 clear."; 02: the scalers' words
-- "carry no tag"
abbrev pub tag_fields : Form → ℕ
tag_fields F.Block = 2
tag_fields F.Parameters = 1
tag_fields F.Trailer = 2
tag_fields F.Event = 2
tag_fields F.Clock = 2
tag_fields F.ClockHigh = 1
tag_fields F.Window = 2
tag_fields F.Raw = 2
tag_fields F.Pair = 1
tag_fields F.Integral = 2
tag_fields F.Time = 2
tag_fields F.Pedestal = 2
tag_fields F.Empty = 2
tag_fields F.Filler = 2
tag_fields F.Scalers = 2
tag_fields F.Scaler = 0

-- the type of a defining word; any other has none, 16
abbrev pub type_of : Form → ℕ
type_of F.Block = 0
type_of F.Parameters = 16
type_of F.Trailer = 1
type_of F.Event = 2
type_of F.Clock = 3
type_of F.ClockHigh = 16
type_of F.Window = 4
type_of F.Raw = 6
type_of F.Pair = 16
type_of F.Integral = 7
type_of F.Time = 8
type_of F.Pedestal = 10
type_of F.Empty = 14
type_of F.Filler = 15
type_of F.Scalers = 12
type_of F.Scaler = 16

-- a word shows so many fields of a tag: bit 31 and that type, bit 31 clear, or none
abbrev pub shows : ℕ → ℕ → ℕ → Bool
shows tags type word = cond (eqb tags 2) (is_defining type word) (cond (eqb tags 1) (is_continuation word) true)

-- the bits by which a word of that form is known are as it shows
abbrev pub is_of : Form → ℕ → Bool
is_of f word = shows (tag_fields f) (type_of f) word

-- a proof that computes opens this file and what it leans on by one name
unfoldable pub all_open : Unit {0}
unfolding word_of fits Rattle.fields.specs.Word.all_open Rattle.fields.specs.Tag.all_open Rattle.framing.specs.Words.all_open Rattle.raw.specs.Words.all_open Rattle.measures.specs.Words.all_open
all_open = tt
