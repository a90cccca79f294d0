-- A record as numbers for C: "Each item answers one of a set of named records carrying its fields; a raw item carries place and pair count". Assumes
-- nothing.
use Rattle.std.specs.Prelude.{ℕ, ◌+◌, ◌*◌, ◌^◌, List, [], ◌∷◌}
use Rattle.records.specs.declared.answer.Record.{Record}
use Rattle.records.specs.declared.answer.Record.TheVariants as R

-- the kinds; those that stand for no record, 0 and 16, are in `ends`
abbrev pub kind_of : Record → ℕ
kind_of (R.Block r) = 1
kind_of (R.Parameters r) = 2
kind_of (R.Event r) = 3
kind_of (R.Time27 r) = 4
kind_of (R.Time48 r high) = 5
kind_of (R.TimeHigh r) = 6
kind_of (R.Window r p) = 7
kind_of (R.Raw r p) = 8
kind_of (R.Pair r) = 9
kind_of (R.Integral r) = 10
kind_of (R.Time r) = 11
kind_of (R.Pedestal r) = 12
kind_of (R.Trailer r) = 13
kind_of (R.Fillers slot n) = 14
kind_of (R.Empty r) = 15
kind_of (R.Scalers p) = 17
kind_of (R.Scaler r) = 18

-- the five numbers behind the kind
abbrev pub field_numbers : Record → List ℕ
field_numbers (R.Block r) = r.slot ∷ r.number ∷ r.events ∷ 0 ∷ 0 ∷ []
field_numbers (R.Parameters r) = r.pl ∷ r.nsb ∷ r.nsa ∷ 0 ∷ 0 ∷ []
field_numbers (R.Event r) = r.slot ∷ r.number ∷ 0 ∷ 0 ∷ 0 ∷ []
-- a time of one word has its low 27 bits, one of two words all 48, the second holding bits 47-24
field_numbers (R.Time27 r) = (r.middle * 2 ^ 24 + r.low) ∷ 0 ∷ 0 ∷ 0 ∷ 0 ∷ []
field_numbers (R.Time48 r high) = (high.high * 2 ^ 24 + r.low) ∷ 0 ∷ 0 ∷ 0 ∷ 0 ∷ []
field_numbers (R.TimeHigh r) = r.high ∷ 0 ∷ 0 ∷ 0 ∷ 0 ∷ []
field_numbers (R.Window r p) = r.channel ∷ 0 ∷ r.width ∷ p.place ∷ p.count ∷ []
field_numbers (R.Raw r p) = r.channel ∷ r.pulse ∷ r.tc ∷ p.place ∷ p.count ∷ []
field_numbers (R.Pair r) = r.first ∷ r.second ∷ r.nofirst ∷ r.nosecond ∷ 0 ∷ []
field_numbers (R.Integral r) = r.channel ∷ r.pulse ∷ r.quality ∷ r.sum ∷ 0 ∷ []
field_numbers (R.Time r) = r.channel ∷ r.pulse ∷ r.quality ∷ r.coarse ∷ r.fine ∷ []
field_numbers (R.Pedestal r) = r.channel ∷ r.pulse ∷ 0 ∷ r.vmin ∷ r.vpeak ∷ []
field_numbers (R.Trailer r) = r.slot ∷ r.words ∷ 0 ∷ 0 ∷ 0 ∷ []
field_numbers (R.Fillers slot n) = slot ∷ n ∷ 0 ∷ 0 ∷ 0 ∷ []
field_numbers (R.Empty r) = r.slot ∷ 0 ∷ 0 ∷ 0 ∷ 0 ∷ []
field_numbers (R.Scalers p) = 0 ∷ p.count ∷ 0 ∷ p.place ∷ 0 ∷ []
field_numbers (R.Scaler r) = r.value ∷ 0 ∷ 0 ∷ 0 ∷ 0 ∷ []

abbrev pub record_numbers : Record → List ℕ
record_numbers x = kind_of x ∷ field_numbers x
