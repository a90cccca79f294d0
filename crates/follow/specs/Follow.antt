-- What follows a record's first word: document 01, "Reading". Assumes nothing.
use Rattle.std.specs.Prelude.{ℕ, Option, Some, None, List, [], ◌∷◌}
use Rattle.framing.specs.declared.trigger_time_high.TriggerTimeHigh.{TriggerTimeHigh}
use Rattle.items.specs.declared.Item.{Item}
use Rattle.items.specs.declared.Item.TheVariants as I
use Rattle.scan.specs.After.{onward}
use Rattle.reader.specs.Reader.{step_at, judge_at}
use Rattle.scan.specs.declared.Scan.{Scan}
use Rattle.reader.specs.Step.{Step}
use Rattle.reader.specs.Step as S
use Rattle.reader.specs.Judged.{Judged}
use Rattle.reader.specs.Judged as J
use Rattle.follow.specs.declared.Fill.{Fill}

-- ---- the second time word

abbrev pub High : Type 0
High = Option (TriggerTimeHigh × Scan)

-- the second time word and the scan behind it, if this item is one
abbrev pub high_of : Item → Scan → High
high_of (I.Block x) u = None
high_of (I.Parameters x) u = None
high_of (I.Trailer x) u = None
high_of (I.Event x) u = None
high_of (I.Clock x) u = None
high_of (I.ClockHigh x) u = Some (x, u)
high_of (I.Window x) u = None
high_of (I.Raw x) u = None
high_of (I.Pair x) u = None
high_of (I.Integral x) u = None
high_of (I.Time x) u = None
high_of (I.Pedestal x) u = None
high_of (I.Empty x) u = None
high_of (I.Filler x) u = None
high_of (I.Scalers x) u = None
high_of (I.Scaler x) u = None

abbrev pub on_high : Judged → High
on_high (J.Took x u) = high_of x u
on_high (J.Refused n place) = None
on_high J.Ended = None

-- the same of the word that follows
unfoldable pub high_from : Scan → List ℕ → High
high_from t [] = None
high_from t (word ∷ words) = on_high (judge_at t word)

-- ---- the fillers

abbrev pub on_filler : Step → ℕ → Scan → (Scan → Fill) → Fill
on_filler (S.Went f u) n t go = go u
on_filler (S.Refused r place) n t go = record { count = n; scan = t }
on_filler S.Ended n t go = record { count = n; scan = t }

-- as many as follow, n of them read; behind the trailer no other word is taken
unfoldable pub fill_from : ℕ → Scan → List ℕ → Fill
fill_from n t [] = record { count = n; scan = t }
fill_from n t (word ∷ words) = on_filler (step_at t word) n t (λ u. fill_from (onward n) u words)

-- a proof that computes opens this file and what it leans on by one name
unfoldable pub all_open : Unit {0}
unfolding high_from fill_from Rattle.scan.specs.After.all_open Rattle.reader.specs.Reader.all_open
all_open = tt
