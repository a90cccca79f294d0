-- The pairs of a raw item: document 01, "The words" and "Reading"; the words of an event's scalers: document 02. Assumes nothing.
use Rattle.std.specs.Prelude.{ℕ, ◌+◌, Bool, true, false, not, cond, ◌||◌, List, [], ◌∷◌, eqb, leb, length, take, drop}
use Rattle.fields.specs.Tag.{is_continuation}
use Rattle.scan.specs.After.{onward}
use Rattle.reader.specs.Reader.{step_at, end_number}
use Rattle.scan.specs.declared.Stage.{Stage}
use Rattle.scan.specs.declared.Stage.TheVariants as P
use Rattle.scan.specs.declared.Scan.{Scan}
use Rattle.reader.specs.Step.{Step}
use Rattle.reader.specs.Step as S
use Rattle.rawitems.specs.declared.Pairs.{Pairs}
use Rattle.rawitems.specs.Pairing.{Pairing}
use Rattle.rawitems.specs.Pairing as G

abbrev pub due_by : Stage → Bool → Bool
due_by P.Start more = false
due_by P.Head more = false
due_by P.Front more = false
due_by P.Opened more = false
due_by (P.Timed d) more = false
due_by P.Items more = false
due_by (P.Window n odd) more = true
due_by (P.Raw n some) more = not some || more
due_by (P.Tail n) more = false
due_by (P.Scalers n) more = not (eqb n 0)

-- "Type 4 has ceil(width/2) pairs, type 6 has 1 to 250": a pair has to come, in type 6 a first one, then while the next word goes on; 02: of the
-- scalers "the reader takes the stated count"
abbrev pub pair_due : Scan → Bool → Bool
pair_due s more = due_by s.stage more

abbrev pub on_pair : Step → Scan → ℕ → (Scan → Pairing) → Pairing
on_pair (S.Went f u) t n go = go u
on_pair (S.Refused r place) t n go = G.Bad r place
on_pair S.Ended t n go = G.All n t

-- the pairs from t on, or the scalers' words, n of them read; a count grows up to its largest value and stays there
unfoldable pub pairs_from : Scan → ℕ → List ℕ → Pairing
pairs_from t n [] = cond (pair_due t false) (G.Bad (end_number t) t.place) (G.All n t)
pairs_from t n (word ∷ words) = cond (pair_due t (is_continuation word)) (on_pair (step_at t word) t n (λ u. pairs_from u (onward n) words)) (G.All n t)

-- "a second call gives that part of the caller's words (empty if it does not lie in them)"
unfoldable pub part_of : List ℕ → Pairs → List ℕ
part_of words p = cond (leb (p.place + p.count) (length words)) (take p.count (drop p.place words)) []

-- a proof that computes opens this file and what it leans on by one name
unfoldable pub all_open : Unit {0}
unfolding pairs_from part_of Rattle.fields.specs.Tag.all_open Rattle.scan.specs.After.all_open Rattle.reader.specs.Reader.all_open
all_open = tt
