-- Reading a block from C, record by record, what is said: one call, and calls one after the other from a scan of zeros on. Assumes nothing.
use Rattle.std.specs.Prelude.{ℕ, ◌+◌, ◌^◌, ◌<◌, ◌≡◌, Bool, cond, List, [], ◌∷◌, ◌++◌, length, get_or, take, drop, replicate}
use Rattle.items.specs.declared.Item.{Item}
use Rattle.scan.specs.After.{start_of}
use Rattle.scan.specs.declared.Scan.{Scan}
use Rattle.reader.specs.Reader.{Whole, read_from, check_from}
use Rattle.reader.specs.RunLaws.{before}
use Rattle.records.specs.declared.answer.Record.{Record}
use Rattle.records.specs.NextOf.{Next}
use Rattle.records.specs.NextOf as N
use Rattle.records.specs.Next.{Made}
use Rattle.records.specs.Answers.{NextSays}
use Rattle.bytecheck.specs.Check.{number_of_out}
use Rattle.cursors.specs.Cursors.{scan_count, cursor_of}
use Rattle.ends.specs.Ends.{record_count, end_kind}
use Rattle.cells.specs.Cells.{record_numbers}
use Rattle.cells.specs.CellsLaws.{TimeSound}
use Rattle.reading.specs.Reading.{room_for, told_by, record_of, record_stored, NextFace}

-- ---- one call

-- the library's scan after a call: behind a record that has room, else as it was
abbrev pub scan_after : Next → Bool → Scan → Scan
scan_after (N.Took x u) room s = cond room u s
scan_after (N.End words) room s = s
scan_after (N.Refused n place) room s = s

-- a call is the library's: an answer of `next`, told as the number that C gets, the numbers of the scan behind it, and those of its record
pub record NextCall (words : List ℕ) (s : Scan) (out : List ℕ) (r : ℕ) (n' out' : List ℕ) : Type 0 where
  pub answer : Next
  pub said : NextSays words s answer
  pub number : r ≡ told_by answer (room_for out)
  pub numbers : n' ≡ cursor_of (scan_after answer (room_for out) s)
  pub cells : out' ≡ record_stored out (record_of answer)

-- ---- calls one after the other

-- what C sees of a call that gave a record: no refusal, and not the block's end
abbrev pub Gave : ℕ → List ℕ → Type 0
Gave r out' = (r < 2 ^ 32) × (get_or out' 0 0 ≡ end_kind → ⊥)

-- from zeros on, each call on the scan's numbers that the last one left and over the same words, any room for the record at each; beside them stand the
-- numbers of the records given so far
pub data CReads (words : List ℕ) : List ℕ → List (List ℕ) → Type 0 where
  at_start : CReads words (replicate scan_count 0) []
  gave : {n : List ℕ} {cells : List (List ℕ)} → CReads words n cells → (out : List ℕ) (r : ℕ) (n' out' : List ℕ) → NextFace n words out r n' out' → Gave r out'
      → CReads words n' (cells ++ (take record_count out' ∷ []))
  gave_none : {n : List ℕ} {cells : List (List ℕ)} → CReads words n cells → (out : List ℕ) (r : ℕ) (n' out' : List ℕ) → NextFace n words out r n' out' → (Gave r out' → ⊥)
      → CReads words n' cells

-- the records whose numbers these are, and the items that they are made of, one after the other: "Each item answers one of a set of named records carrying
-- its fields; a raw item carries place and pair count". A time is sound, so that the numbers are no other record's
pub data Recorded : List (List ℕ) → List Item → Type 0 where
  none : Recorded [] []
  another : {cells : List (List ℕ)} {xs : List Item} → Recorded cells xs → (x : Record) (items : List Item) → Made (length xs + 1) x items → TimeSound x
      → Recorded (cells ++ (record_numbers x ∷ [])) (xs ++ items)

-- where such calls stand: the numbers left are a scan's; the items of the records stand first in the reading of the words, and the rest is read from that scan on
pub record ReadSoFar (words n : List ℕ) (cells : List (List ℕ)) : Type 0 where
  pub scan : Scan
  pub numbers : n ≡ cursor_of scan
  pub items : List Item
  pub records : Recorded cells items
  pub place : scan.place ≡ length items
  pub run : read_from start_of words ≡ before items (read_from scan (drop scan.place words))

-- and where they end: the items are all of the block's, which has so many words
pub record ReadWhole (words : List ℕ) (cells : List (List ℕ)) (size : ℕ) : Type 0 where
  pub items : List Item
  pub records : Recorded cells items
  pub read : read_from start_of words ≡ record { items = items; out = Whole size }

-- that they come to an end: with room for a record at each, calls lead to one that gives none; what it answers is what the check says of the words
pub record Stops (words : List ℕ) : Type 0 where
  pub numbers : List ℕ
  pub cells : List (List ℕ)
  pub calls : CReads words numbers cells
  pub answer : ℕ
  pub out : List ℕ
  pub last : NextFace numbers words (replicate record_count 0) answer numbers out
  pub checked : number_of_out (check_from start_of words) ≡ answer
