-- Document 01, "Reading": what a word is, by where it stands, bit 31 and its type. All is asked of the scan. Assumes nothing.
use Rattle.std.specs.Prelude.{ℕ, Bool, true, false, cond, List, [], ◌∷◌, eqb}
use Rattle.fields.specs.Word.{read}
use Rattle.items.specs.Items.{type_of}
use Rattle.items.specs.declared.Form.{Form}
use Rattle.items.specs.declared.Form.TheVariants as F
use Rattle.scan.specs.declared.Stage.{Stage}
use Rattle.scan.specs.declared.Stage.TheVariants as P
use Rattle.scan.specs.declared.Scan.{Scan}
use Rattle.meaning.specs.declared.Meaning.{Meaning}
use Rattle.meaning.specs.declared.Meaning.TheVariants as M

-- ---- among an event's scalers

-- 02: "They carry no tag: the reader takes the stated count": while words of it are to come, whatever their bits
abbrev pub scaler_or : ℕ → Meaning
scaler_or n = cond (eqb n 0) M.Unallowed (M.Form F.Scaler)

-- ---- a continuation

abbrev pub more_by : Stage → Meaning
more_by P.Start = M.Unallowed
more_by P.Head = M.Form F.Parameters
more_by P.Front = M.Unallowed
more_by P.Opened = M.Unallowed
more_by (P.Timed d) = M.Form F.ClockHigh
more_by P.Items = M.Unallowed
more_by (P.Window n odd) = M.Form F.Pair
more_by (P.Raw n some) = cond (eqb n 0) M.Unallowed (M.Form F.Pair)
more_by (P.Tail n) = M.End
more_by (P.Scalers n) = scaler_or n

-- what a continuation is here
abbrev pub more_in : Scan → Meaning
more_in s = more_by s.stage

-- ---- a defining word

-- "One block: header, ..", "Type 14 in place of a header answers"
abbrev pub opening : List Form
opening = F.Block ∷ F.Empty ∷ []

-- "event headers and the trailer count as allowed wherever an event may end or begin"
abbrev pub edges : List Form
edges = F.Event ∷ F.Trailer ∷ []

-- "An event: header, optionally one or two time words, then any number of 4, 6, 7, 8, 10 items."; 02: "a closed event ends with type 12"
abbrev pub inner : List Form
inner = F.Window ∷ F.Raw ∷ F.Integral ∷ F.Time ∷ F.Pedestal ∷ F.Scalers ∷ edges

-- "One block: header, optional parameters, exactly the stated events, trailer, up to three fillers." "type 6 has 1 to 250" pairs; 02: "12 for anything
-- after the scalers but the next event header or the trailer"
abbrev pub allowed_by : Stage → List Form
allowed_by P.Start = opening
allowed_by P.Head = edges
allowed_by P.Front = edges
allowed_by P.Opened = F.Clock ∷ inner
allowed_by (P.Timed d) = inner
allowed_by P.Items = inner
allowed_by (P.Window n odd) = []
allowed_by (P.Raw n some) = cond some inner []
allowed_by (P.Tail n) = cond (eqb n 0) [] (F.Filler ∷ [])
allowed_by (P.Scalers n) = cond (eqb n 0) edges []

-- the types that may stand here
abbrev pub allowed_in : Scan → List Form
allowed_in s = allowed_by s.stage

abbrev pub other_by : Stage → Meaning
other_by P.Start = M.Unallowed
other_by P.Head = M.Unallowed
other_by P.Front = M.Unallowed
other_by P.Opened = M.Unallowed
other_by (P.Timed d) = M.Unallowed
other_by P.Items = M.Unallowed
other_by (P.Window n odd) = M.Unallowed
other_by (P.Raw n some) = M.Unallowed
other_by (P.Tail n) = M.End
other_by (P.Scalers n) = scaler_or n

-- any other word is refused, but behind the trailer the block ends "before a word that is no filler", and among the scalers it is one of theirs
abbrev pub other_in : Scan → Meaning
other_in s = other_by s.stage

-- the form of that type among those allowed
abbrev pub meaning_in : Meaning → List Form → ℕ → Meaning
meaning_in other [] type = other
meaning_in other (f ∷ fs) type = cond (eqb type (type_of f)) (M.Form f) (meaning_in other fs type)

-- ---- a word

-- by bit 31 and the type
abbrev pub meaning_for : Scan → ℕ → ℕ → Meaning
meaning_for s bit type = cond (eqb bit 0) (more_in s) (meaning_in (other_in s) (allowed_in s) type)

unfoldable pub meaning_at : Scan → ℕ → Meaning
meaning_at s word = meaning_for s (read 31 31 word) (read 30 27 word)

-- "12 type not allowed here, pair missing or too many"
abbrev pub is_unallowed : Meaning → Bool
is_unallowed (M.Form f) = false
is_unallowed M.Unallowed = true
is_unallowed M.End = false

-- the block ends before this word
abbrev pub is_end : Meaning → Bool
is_end (M.Form f) = false
is_end M.Unallowed = false
is_end M.End = true

-- ---- before the trailer, or behind it

abbrev pub unfinished_by : Stage → Bool
unfinished_by P.Start = true
unfinished_by P.Head = true
unfinished_by P.Front = true
unfinished_by P.Opened = true
unfinished_by (P.Timed d) = true
unfinished_by P.Items = true
unfinished_by (P.Window n odd) = true
unfinished_by (P.Raw n some) = true
unfinished_by (P.Tail n) = false
unfinished_by (P.Scalers n) = true

-- "no trailer was read", and no module empty
abbrev pub unfinished : Scan → Bool
unfinished s = unfinished_by s.stage

-- a proof that computes opens this file and what it leans on by one name
unfoldable pub all_open : Unit {0}
unfolding meaning_at Rattle.fields.specs.Word.all_open Rattle.items.specs.Items.all_open
all_open = tt
