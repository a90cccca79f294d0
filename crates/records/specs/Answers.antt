-- What reading on answers, in document 01's own numbers: "Each item answers one of a set of named records carrying its fields"; and what it
-- promises. Assumes nothing.
use Rattle.std.specs.Prelude.{ℕ, ◌≡◌, List, [], ◌∷◌, ◌++◌, get_or, drop}
use Rattle.items.specs.declared.Form.TheVariants as F
use Rattle.items.specs.declared.Item.TheVariants as I
use Rattle.reader.specs.Reader.{Broken, read_from}
use Rattle.reader.specs.Answers.{row_type, row_fields}
use Rattle.scan.specs.declared.Scan.{Scan}
use Rattle.records.specs.declared.answer.Record.{Record}
use Rattle.records.specs.declared.answer.Record.TheVariants as R
use Rattle.records.specs.NextOf.{Next}
use Rattle.records.specs.NextOf as N
use Rattle.records.specs.Next.{next_at}

-- the type of the row that a record is read by; a pair has none, 16
abbrev pub record_type : Record → ℕ
record_type (R.Block r) = row_type F.Block
record_type (R.Parameters r) = row_type F.Parameters
record_type (R.Event r) = row_type F.Event
record_type (R.Time27 r) = row_type F.Clock
record_type (R.Time48 r high) = row_type F.Clock
record_type (R.TimeHigh r) = row_type F.ClockHigh
record_type (R.Window r p) = row_type F.Window
record_type (R.Raw r p) = row_type F.Raw
record_type (R.Pair r) = row_type F.Pair
record_type (R.Integral r) = row_type F.Integral
record_type (R.Time r) = row_type F.Time
record_type (R.Pedestal r) = row_type F.Pedestal
record_type (R.Trailer r) = row_type F.Trailer
record_type (R.Fillers slot n) = row_type F.Filler
record_type (R.Empty r) = row_type F.Empty
record_type (R.Scalers p) = row_type F.Scalers
record_type (R.Scaler r) = row_type F.Scaler

-- the row's fields from the high end down, of a time of two words both rows'; "a raw item carries place and pair count"; of fillers their slot and
-- how many; of scalers their count, which is the row's field, and the place of their words
abbrev pub record_values : Record → List ℕ
record_values (R.Block r) = row_fields (I.Block r)
record_values (R.Parameters r) = row_fields (I.Parameters r)
record_values (R.Event r) = row_fields (I.Event r)
record_values (R.Time27 r) = row_fields (I.Clock r)
record_values (R.Time48 r high) = row_fields (I.Clock r) ++ row_fields (I.ClockHigh high)
record_values (R.TimeHigh r) = row_fields (I.ClockHigh r)
record_values (R.Window r p) = row_fields (I.Window r) ++ (p.place ∷ p.count ∷ [])
record_values (R.Raw r p) = row_fields (I.Raw r) ++ (p.place ∷ p.count ∷ [])
record_values (R.Pair r) = row_fields (I.Pair r)
record_values (R.Integral r) = row_fields (I.Integral r)
record_values (R.Time r) = row_fields (I.Time r)
record_values (R.Pedestal r) = row_fields (I.Pedestal r)
record_values (R.Trailer r) = row_fields (I.Trailer r)
record_values (R.Fillers slot n) = slot ∷ n ∷ []
record_values (R.Empty r) = row_fields (I.Empty r)
record_values (R.Scalers p) = p.count ∷ p.place ∷ []
record_values (R.Scaler r) = row_fields (I.Scaler r)

-- the number of the refusal, 0 where there is none
abbrev pub next_number : Next → ℕ
next_number (N.Took x u) = 0
next_number (N.End words) = 0
next_number (N.Refused n place) = n

-- of a record its type and values, of the block's end its words, of a refusal its place
abbrev pub next_values : Next → List ℕ
next_values (N.Took x u) = record_type x ∷ record_values x
next_values (N.End words) = words ∷ []
next_values (N.Refused n place) = place ∷ []

pub record NextSays (words : List ℕ) (s : Scan) (r : Next) : Type 0 where
  pub number : next_number r ≡ next_number (next_at words s)
  pub values : next_values r ≡ next_values (next_at words s)
  -- a refusal is the block's own: the number and the place at which its reading breaks
  pub refused : (next_number r ≡ 0 → ⊥) → (read_from s (drop s.place words)).out ≡ Broken (next_number r) (get_or (next_values r) 0 0)
  pub answer : r ≡ next_at words s
