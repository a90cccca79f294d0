-- Document 01, "Reading", record by record: "Each item answers one of a set of named records carrying its fields." Assumes nothing.
use Rattle.std.specs.Prelude.{ℕ, ◌-◌, ◌^◌, ◌≤◌, min, ◌≡◌, Bool, true, false, cond, Some, None, List, [], ◌∷◌, map, eqb, length, drop}
use Rattle.framing.specs.declared.trigger_time.TriggerTime.{TriggerTime}
use Rattle.framing.specs.declared.scaler.ScalerWord.{ScalerWord}
use Rattle.raw.specs.declared.pair.SamplePair.{SamplePair}
use Rattle.items.specs.declared.Item.{Item}
use Rattle.items.specs.declared.Item.TheVariants as I
use Rattle.reader.specs.Reader.{judge_at, end_number}
use Rattle.scan.specs.declared.Scan.{Scan}
use Rattle.reader.specs.Judged.{Judged}
use Rattle.reader.specs.Judged as J
use Rattle.rawitems.specs.declared.Pairs.{Pairs}
use Rattle.rawitems.specs.Pairing.{Pairing}
use Rattle.rawitems.specs.Pairing as G
use Rattle.rawitems.specs.Pairs.{pairs_from}
use Rattle.follow.specs.declared.Fill.{Fill}
use Rattle.follow.specs.Follow.{High, high_from, fill_from}
use Rattle.records.specs.declared.answer.Record.{Record}
use Rattle.records.specs.declared.answer.Record.TheVariants as R
use Rattle.records.specs.NextOf.{Next}
use Rattle.records.specs.NextOf as N

-- ---- a raw item

-- "a raw item carries place and pair count"
abbrev pub with_pairs : (Pairs → Record) → ℕ → Pairing → Next
with_pairs make place (G.All n u) = N.Took (make (record { place = place; count = n })) u
with_pairs make place (G.Bad r at) = N.Refused r at

-- ---- the trigger time: "optionally one or two time words"

abbrev pub with_high : TriggerTime → Scan → High → Next
with_high r t None = N.Took (R.Time27 r) t
with_high r t (Some x) = N.Took (R.Time48 r x.0) x.1

-- a first time word with the second where that follows
abbrev pub time_from : TriggerTime → Scan → List ℕ → Next
time_from r t words = with_high r t (high_from t words)

-- ---- the fillers, together

-- a first filler and those that follow
abbrev pub fillers_from : ℕ → Scan → List ℕ → Next
fillers_from slot t words = let f : Fill = fill_from 1 t words in N.Took (R.Fillers slot f.count) f.scan

-- ---- an event's scalers

-- the words behind the head, as many as it states
abbrev pub scalers_from : Scan → List ℕ → Next
scalers_from t words = with_pairs (λ p. R.Scalers p) t.place (pairs_from t 0 words)

-- ---- the next record

-- the record that starts with this item, t the scan behind that
abbrev pub record_from : Item → Scan → List ℕ → Next
record_from (I.Block r) t words = N.Took (R.Block r) t
record_from (I.Parameters r) t words = N.Took (R.Parameters r) t
record_from (I.Trailer r) t words = N.Took (R.Trailer r) t
record_from (I.Event r) t words = N.Took (R.Event r) t
record_from (I.Clock r) t words = time_from r t words
record_from (I.ClockHigh r) t words = N.Took (R.TimeHigh r) t
record_from (I.Window r) t words = with_pairs (λ p. R.Window r p) t.place (pairs_from t 0 words)
record_from (I.Raw r) t words = with_pairs (λ p. R.Raw r p) t.place (pairs_from t 0 words)
record_from (I.Pair r) t words = N.Took (R.Pair r) t
record_from (I.Integral r) t words = N.Took (R.Integral r) t
record_from (I.Time r) t words = N.Took (R.Time r) t
record_from (I.Pedestal r) t words = N.Took (R.Pedestal r) t
record_from (I.Empty r) t words = N.Took (R.Empty r) t
record_from (I.Filler r) t words = fillers_from r.slot t words
record_from (I.Scalers r) t words = scalers_from t words
record_from (I.Scaler r) t words = N.Took (R.Scaler r) t

-- the input's end: the block's end, or the refusal there
abbrev pub ended : ℕ → ℕ → Next
ended refusal place = cond (eqb refusal 0) (N.End place) (N.Refused refusal place)

abbrev pub from_judged : Judged → ℕ → List ℕ → Next
from_judged (J.Took x t) place words = record_from x t words
from_judged (J.Refused n p) place words = N.Refused n p
from_judged J.Ended place words = N.End place

-- the words are those from s on
unfoldable pub next_from : Scan → List ℕ → Next
next_from s [] = ended (end_number s) s.place
next_from s (word ∷ words) = from_judged (judge_at s word) s.place words

-- the words are those from the block's first on
unfoldable pub next_at : List ℕ → Scan → Next
next_at words s = next_from s (drop s.place words)

-- ---- what a record is made of

-- counts grow up to their largest value
abbrev pub most_count : ℕ
most_count = 2 ^ 32 - 1

abbrev pub filler_at : ℕ → Item
filler_at slot = I.Filler (record { slot = slot })

-- each of the items is x
abbrev pub AllAre : Item → List Item → Type 0
AllAre x [] = Unit {0}
AllAre x (y ∷ ys) = (y ≡ x) × AllAre x ys

-- a raw item: behind its head stand its pairs, from the place after the head on
pub record PairsMade (head : Item) (place : ℕ) (p : Pairs) (items : List Item) : Type 0 where
  pub at : p.place ≡ place
  pub pairs : List SamplePair
  pub all : items ≡ head ∷ map (λ x. I.Pair x) pairs
  pub many : p.count ≡ min (length pairs) most_count

pub record FillersMade (slot n : ℕ) (items : List Item) : Type 0 where
  pub some : 1 ≤ length items
  pub all : AllAre (filler_at slot) items
  pub many : n ≡ min (length items) most_count

-- an event's scalers: behind the head stand as many words as it states, from the place after the head on; so for every scan, since the count has six bits
pub record ScalersMade (place : ℕ) (p : Pairs) (items : List Item) : Type 0 where
  pub at : p.place ≡ place
  pub words : List ScalerWord
  pub all : items ≡ I.Scalers (record { count = p.count }) ∷ map (λ x. I.Scaler x) words
  pub many : p.count ≡ length words

-- the items that a record is made of; place is that of the word after its first
abbrev pub Made : ℕ → Record → List Item → Type 0
Made place (R.Block r) items = items ≡ I.Block r ∷ []
Made place (R.Parameters r) items = items ≡ I.Parameters r ∷ []
Made place (R.Event r) items = items ≡ I.Event r ∷ []
Made place (R.Time27 r) items = items ≡ I.Clock r ∷ []
Made place (R.Time48 r high) items = items ≡ I.Clock r ∷ I.ClockHigh high ∷ []
Made place (R.TimeHigh r) items = items ≡ I.ClockHigh r ∷ []
Made place (R.Window r p) items = PairsMade (I.Window r) place p items
Made place (R.Raw r p) items = PairsMade (I.Raw r) place p items
Made place (R.Pair r) items = items ≡ I.Pair r ∷ []
Made place (R.Integral r) items = items ≡ I.Integral r ∷ []
Made place (R.Time r) items = items ≡ I.Time r ∷ []
Made place (R.Pedestal r) items = items ≡ I.Pedestal r ∷ []
Made place (R.Trailer r) items = items ≡ I.Trailer r ∷ []
Made place (R.Fillers slot n) items = FillersMade slot n items
Made place (R.Empty r) items = items ≡ I.Empty r ∷ []
Made place (R.Scalers p) items = ScalersMade place p items
Made place (R.Scaler r) items = items ≡ I.Scaler r ∷ []

-- a pair stands first
abbrev pub is_pair : Item → Bool
is_pair (I.Block r) = false
is_pair (I.Parameters r) = false
is_pair (I.Trailer r) = false
is_pair (I.Event r) = false
is_pair (I.Clock r) = false
is_pair (I.ClockHigh r) = false
is_pair (I.Window r) = false
is_pair (I.Raw r) = false
is_pair (I.Pair r) = true
is_pair (I.Integral r) = false
is_pair (I.Time r) = false
is_pair (I.Pedestal r) = false
is_pair (I.Empty r) = false
is_pair (I.Filler r) = false
is_pair (I.Scalers r) = false
is_pair (I.Scaler r) = false

abbrev pub starts_pair : List Item → Bool
starts_pair [] = false
starts_pair (x ∷ xs) = is_pair x

-- what is said of a raw item's place and count; of other records nothing
abbrev pub OfRaw : Record → (Pairs → Type 0) → Type 0
OfRaw (R.Block r) P = Unit {0}
OfRaw (R.Parameters r) P = Unit {0}
OfRaw (R.Event r) P = Unit {0}
OfRaw (R.Time27 r) P = Unit {0}
OfRaw (R.Time48 r high) P = Unit {0}
OfRaw (R.TimeHigh r) P = Unit {0}
OfRaw (R.Window r p) P = P p
OfRaw (R.Raw r p) P = P p
OfRaw (R.Pair r) P = Unit {0}
OfRaw (R.Integral r) P = Unit {0}
OfRaw (R.Time r) P = Unit {0}
OfRaw (R.Pedestal r) P = Unit {0}
OfRaw (R.Trailer r) P = Unit {0}
OfRaw (R.Fillers slot n) P = Unit {0}
OfRaw (R.Empty r) P = Unit {0}
OfRaw (R.Scalers p) P = Unit {0}
OfRaw (R.Scaler r) P = Unit {0}

-- a proof that computes opens this file and what it leans on by one name
unfoldable pub all_open : Unit {0}
unfolding next_from next_at Rattle.reader.specs.Reader.all_open Rattle.rawitems.specs.Pairs.all_open Rattle.follow.specs.Follow.all_open
all_open = tt
