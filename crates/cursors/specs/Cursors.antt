-- Where the reading of a block stands, as numbers that C lends. Assumes nothing.
use Rattle.std.specs.Prelude.{ℕ, Bool, cond, ◌&&◌, List, [], ◌∷◌, eqb, leb, length, get_or}
use Rattle.copies.specs.Copies.{pasted}
use Rattle.scan.specs.declared.Stage.{Stage}
use Rattle.scan.specs.declared.Stage.TheVariants as P
use Rattle.scan.specs.declared.Scan.{Scan}

-- ---- where the numbers stand: the place of the next word, the block's slot, the event headers to come, then the stage and what goes with it

abbrev pub place_at : ℕ
place_at = 0

abbrev pub slot_at : ℕ
slot_at = 1

abbrev pub left_at : ℕ
left_at = 2

abbrev pub stage_at : ℕ
stage_at = 3

abbrev pub first_at : ℕ
first_at = 4

abbrev pub second_at : ℕ
second_at = 5

-- how many they are
abbrev pub scan_count : ℕ
scan_count = 6

-- ---- the numbers of a scan

-- the stages in the order in which a block comes to them; an event's scalers, of document 02, are the last
abbrev pub stage_number : Stage → ℕ
stage_number P.Start = 0
stage_number P.Head = 1
stage_number P.Front = 2
stage_number P.Opened = 3
stage_number (P.Timed bits) = 4
stage_number P.Items = 5
stage_number (P.Window pairs odd) = 6
stage_number (P.Raw pairs some) = 7
stage_number (P.Tail fillers) = 8
stage_number (P.Scalers words) = 9

abbrev pub last_stage : ℕ
last_stage = 9

-- the number that goes with a stage, 0 where none does
abbrev pub stage_first : Stage → ℕ
stage_first P.Start = 0
stage_first P.Head = 0
stage_first P.Front = 0
stage_first P.Opened = 0
stage_first (P.Timed bits) = bits
stage_first P.Items = 0
stage_first (P.Window pairs odd) = pairs
stage_first (P.Raw pairs some) = pairs
stage_first (P.Tail fillers) = fillers
stage_first (P.Scalers words) = words

abbrev pub mark_number : Bool → ℕ
mark_number b = cond b 1 0

-- the same of its mark
abbrev pub stage_second : Stage → ℕ
stage_second P.Start = 0
stage_second P.Head = 0
stage_second P.Front = 0
stage_second P.Opened = 0
stage_second (P.Timed bits) = 0
stage_second P.Items = 0
stage_second (P.Window pairs odd) = mark_number odd
stage_second (P.Raw pairs some) = mark_number some
stage_second (P.Tail fillers) = 0
stage_second (P.Scalers words) = 0

unfoldable pub cursor_of : Scan → List ℕ
cursor_of s = s.place ∷ s.slot ∷ s.left ∷ stage_number s.stage ∷ stage_first s.stage ∷ stage_second s.stage ∷ []

-- ---- the scan of numbers

-- as many as a scan has, a stage's number, and a mark
unfoldable pub is_scan : List ℕ → Bool
is_scan n = (eqb (length n) scan_count && leb (get_or n stage_at 0) last_stage) && leb (get_or n second_at 0) 1

-- a number past the last stage stands for the last; what a stage does not have is not looked at
abbrev pub stage_from : ℕ → ℕ → Bool → Stage
stage_from n first second =
    cond (eqb n 0) P.Start
    (cond (eqb n 1) P.Head
    (cond (eqb n 2) P.Front
    (cond (eqb n 3) P.Opened
    (cond (eqb n 4) (P.Timed first)
    (cond (eqb n 5) P.Items
    (cond (eqb n 6) (P.Window first second)
    (cond (eqb n 7) (P.Raw first second)
    (cond (eqb n 8) (P.Tail first)
    (P.Scalers first)))))))))

unfoldable pub scan_from : List ℕ → Scan
scan_from n =
    record {
      place = get_or n place_at 0;
      slot = get_or n slot_at 0;
      left = get_or n left_at 0;
      stage = stage_from (get_or n stage_at 0) (get_or n first_at 0) (eqb (get_or n second_at 0) 1);
    }

-- ---- what storing leaves of the numbers n: a scan over their front; fewer stay as they were

abbrev pub scan_stored : List ℕ → Scan → List ℕ
scan_stored n s = pasted n 0 (cursor_of s)
