-- Reading a block from C, record by record: "Each item answers one of a set of named records carrying its fields". Assumes nothing.
use Rattle.std.specs.Prelude.{ℕ, ◌+◌, ◌*◌, ◌^◌, ◌≡◌, Bool, cond, List, leb, length}
use Rattle.ground.specs.Splice.{splice}
use Rattle.refusals.specs.Refusal.{bad_array}
use Rattle.records.specs.NextOf.{Next}
use Rattle.records.specs.NextOf as N
use Rattle.records.specs.Next.{next_at}
use Rattle.cursors.specs.Cursors.{is_scan, scan_from, scan_stored}
use Rattle.ends.specs.Ends.{record_count, end_numbers, no_numbers}
use Rattle.cells.specs.Cells.{record_numbers}

-- an array is not as the header says
abbrev pub bad_answer : ℕ
bad_answer = bad_array * 2 ^ 32

-- the numbers lent for a record are enough
abbrev pub room_for : List ℕ → Bool
room_for out = leb record_count (length out)

-- how many words were read; "refusal x 2^32 plus the place"; without room for the record, and no refusal before that, the array's
abbrev pub told_by : Next → Bool → ℕ
told_by (N.Took x u) room = cond room u.place bad_answer
told_by (N.End words) room = cond room words bad_answer
told_by (N.Refused n place) room = n * 2 ^ 32 + place

-- the scan's numbers: they move behind a record that was filled in, and else stay
abbrev pub scan_left : Next → Bool → List ℕ → List ℕ
scan_left (N.Took x u) room n = cond room (scan_stored n u) n
scan_left (N.End words) room n = n
scan_left (N.Refused refusal place) room n = n

-- the record's numbers
abbrev pub record_of : Next → List ℕ
record_of (N.Took x u) = record_numbers x
record_of (N.End words) = end_numbers
record_of (N.Refused n place) = no_numbers

-- numbers over the front of those lent; fewer stay as they were
abbrev pub record_stored : List ℕ → List ℕ → List ℕ
record_stored out new = cond (room_for out) (splice out 0 new) out

-- one call: `n` the scan's numbers, `out` the record's, `n'` and `out'` the same after it, `r` the answer
pub record NextFace (n words out : List ℕ) (r : ℕ) (n' out' : List ℕ) : Type 0 where
  pub number : r ≡ cond (is_scan n) (told_by (next_at words (scan_from n)) (room_for out)) bad_answer
  pub numbers : n' ≡ cond (is_scan n) (scan_left (next_at words (scan_from n)) (room_for out) n) n
  pub cells : out' ≡ record_stored out (cond (is_scan n) (record_of (next_at words (scan_from n))) no_numbers)
