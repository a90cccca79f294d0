-- What the list of types says of a number is what is said here of the form that has it. All by computation. Assumes nothing.
use Rattle.std.specs.Prelude.{ℕ, ◌≡◌, refl, Bool, true, false, ◌&&◌, ◌||◌, List, [], ◌∷◌, map, eqb}
use Rattle.std.proofs.Common.{true≢false}
use Rattle.std.proofs.lemmas.Bool.{false≢true}
use Rattle.fields.specs.Word.{Field}
use Rattle.types.specs.Types.{listed, is_allowed, has_slot, zeros_clear}
use Rattle.items.specs.Items.{row_of, item_from, fixed_in, tag_fields, type_of, all_open}
use Rattle.items.specs.declared.Form.{Form}
use Rattle.items.specs.declared.Form.TheVariants as F

-- the list has the types of these forms, in this order, and no other
pub listed_forms : map type_of (F.Block ∷ F.Trailer ∷ F.Event ∷ F.Clock ∷ F.Window ∷ F.Raw ∷ F.Integral ∷ F.Time ∷ F.Pedestal ∷ F.Scalers ∷ F.Empty ∷ F.Filler ∷ []) ≡ listed
listed_forms = refl

-- a form has a type of the list exactly where its words are defining ones
pub form_allowed : (f : Form) → is_allowed (type_of f) ≡ eqb (tag_fields f) 2
form_allowed F.Block = refl
form_allowed F.Parameters = refl
form_allowed F.Trailer = refl
form_allowed F.Event = refl
form_allowed F.Clock = refl
form_allowed F.ClockHigh = refl
form_allowed F.Window = refl
form_allowed F.Raw = refl
form_allowed F.Pair = refl
form_allowed F.Integral = refl
form_allowed F.Time = refl
form_allowed F.Pedestal = refl
form_allowed F.Empty = refl
form_allowed F.Filler = refl
form_allowed F.Scalers = refl
form_allowed F.Scaler = refl

-- a field of the bits 26-22
abbrev slot_in : List Field → Bool
slot_in [] = false
slot_in (f ∷ fs) = (eqb f.high 26 && eqb f.low 22) || slot_in fs

-- it has a slot exactly where the row that it is written by has one
pub form_slot : (f : Form) → has_slot (type_of f) ≡ slot_in (row_of (item_from f 0))
unfolding all_open
form_slot F.Block = refl
form_slot F.Parameters = refl
form_slot F.Trailer = refl
form_slot F.Event = refl
form_slot F.Clock = refl
form_slot F.ClockHigh = refl
form_slot F.Window = refl
form_slot F.Raw = refl
form_slot F.Pair = refl
form_slot F.Integral = refl
form_slot F.Time = refl
form_slot F.Pedestal = refl
form_slot F.Empty = refl
form_slot F.Filler = refl
form_slot F.Scalers = refl
form_slot F.Scaler = refl

-- the bits that its type must have zero are those that it shows fixed, but of type 0, which has none: there it is the module, a limit
pub form_zeros : (f : Form) (word : ℕ) → is_allowed (type_of f) ≡ true → eqb (type_of f) 0 ≡ false → fixed_in f word ≡ zeros_clear (type_of f) word
form_zeros F.Block word a h = absurd (true≢false h)
form_zeros F.Parameters word a h = absurd (false≢true a)
form_zeros F.Trailer word a h = refl
form_zeros F.Event word a h = refl
form_zeros F.Clock word a h = refl
form_zeros F.ClockHigh word a h = absurd (false≢true a)
form_zeros F.Window word a h = refl
form_zeros F.Raw word a h = refl
form_zeros F.Pair word a h = absurd (false≢true a)
form_zeros F.Integral word a h = refl
form_zeros F.Time word a h = refl
form_zeros F.Pedestal word a h = refl
form_zeros F.Empty word a h = refl
form_zeros F.Filler word a h = refl
form_zeros F.Scalers word a h = refl
form_zeros F.Scaler word a h = absurd (false≢true a)

pub block_zeros : (word : ℕ) → zeros_clear (type_of F.Block) word ≡ true
block_zeros word = refl
