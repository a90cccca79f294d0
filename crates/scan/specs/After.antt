-- Document 01, "Reading": where the reading stands behind a record. Places count from 0 at the block's first word. Assumes nothing.
use Rattle.std.specs.Prelude.{ℕ, ◌+◌, ◌-◌, ◌%◌, ◌^◌, min, true, false, cond, eqb, leb}
use Rattle.limits.specs.Limits.{pairs_of, most_pairs}
use Rattle.items.specs.declared.Item.{Item}
use Rattle.items.specs.declared.Item.TheVariants as I
use Rattle.scan.specs.declared.Stage.{Stage}
use Rattle.scan.specs.declared.Stage.TheVariants as P
use Rattle.scan.specs.declared.Scan.{Scan}

abbrev pub start_of : Scan
start_of = record { place = 0; slot = 0; left = 0; stage = P.Start }

-- a place grows up to its largest value and stays there; no block comes that far
unfoldable pub onward : ℕ → ℕ
onward place = min (place + 1) (2 ^ 32 - 1)

-- "up to three fillers"
abbrev pub most_fillers : ℕ
most_fillers = 3

abbrev pub paired_by : Stage → ℕ → Stage
paired_by P.Start flag = P.Start
paired_by P.Head flag = P.Head
paired_by P.Front flag = P.Front
paired_by P.Opened flag = P.Opened
paired_by (P.Timed d) flag = P.Timed d
paired_by P.Items flag = P.Items
paired_by (P.Window n odd) flag = cond (leb n 1) P.Items (P.Window (n - 1) odd)
paired_by (P.Raw n some) flag = P.Raw (cond (eqb flag 1) 0 (n - 1)) true
paired_by (P.Tail n) flag = P.Tail n
paired_by (P.Scalers n) flag = P.Scalers n

-- after a pair: the window's pairs are counted down; of type 6 "a flagged pair is the last"
abbrev pub paired : Scan → ℕ → Stage
paired s flag = paired_by s.stage flag

abbrev pub filled_by : Stage → Stage
filled_by P.Start = P.Start
filled_by P.Head = P.Head
filled_by P.Front = P.Front
filled_by P.Opened = P.Opened
filled_by (P.Timed d) = P.Timed d
filled_by P.Items = P.Items
filled_by (P.Window n odd) = P.Window n odd
filled_by (P.Raw n some) = P.Raw n some
filled_by (P.Tail n) = P.Tail (n - 1)
filled_by (P.Scalers n) = P.Scalers n

-- after a filler: one fewer may come
abbrev pub filled : Scan → Stage
filled s = filled_by s.stage

abbrev pub scaled_by : Stage → Stage
scaled_by P.Start = P.Start
scaled_by P.Head = P.Head
scaled_by P.Front = P.Front
scaled_by P.Opened = P.Opened
scaled_by (P.Timed d) = P.Timed d
scaled_by P.Items = P.Items
scaled_by (P.Window n odd) = P.Window n odd
scaled_by (P.Raw n some) = P.Raw n some
scaled_by (P.Tail n) = P.Tail n
scaled_by (P.Scalers n) = P.Scalers (n - 1)

-- after a word of the scalers: one fewer is to come
abbrev pub scaled : Scan → Stage
scaled s = scaled_by s.stage

-- "Type 4 has ceil(width/2) pairs, type 6 has 1 to 250."; 02: of the scalers "the reader takes the stated count, 0 to 63"
abbrev pub stage_after : Scan → Item → Stage
stage_after s (I.Block r) = P.Head
stage_after s (I.Parameters r) = P.Front
stage_after s (I.Trailer r) = P.Tail most_fillers
stage_after s (I.Event r) = P.Opened
stage_after s (I.Clock r) = P.Timed r.middle
stage_after s (I.ClockHigh r) = P.Items
stage_after s (I.Window r) = P.Window (pairs_of r.width) (eqb (r.width % 2) 1)
stage_after s (I.Raw r) = P.Raw most_pairs false
stage_after s (I.Pair r) = paired s r.nosecond
stage_after s (I.Integral r) = P.Items
stage_after s (I.Time r) = P.Items
stage_after s (I.Pedestal r) = P.Items
stage_after s (I.Empty r) = P.Tail 0
stage_after s (I.Filler r) = filled s
stage_after s (I.Scalers r) = P.Scalers r.count
stage_after s (I.Scaler r) = scaled s

abbrev pub slot_after : Scan → Item → ℕ
slot_after s (I.Block r) = r.slot
slot_after s (I.Parameters r) = s.slot
slot_after s (I.Trailer r) = s.slot
slot_after s (I.Event r) = s.slot
slot_after s (I.Clock r) = s.slot
slot_after s (I.ClockHigh r) = s.slot
slot_after s (I.Window r) = s.slot
slot_after s (I.Raw r) = s.slot
slot_after s (I.Pair r) = s.slot
slot_after s (I.Integral r) = s.slot
slot_after s (I.Time r) = s.slot
slot_after s (I.Pedestal r) = s.slot
slot_after s (I.Empty r) = s.slot
slot_after s (I.Filler r) = s.slot
slot_after s (I.Scalers r) = s.slot
slot_after s (I.Scaler r) = s.slot

-- event headers still to come
abbrev pub left_after : Scan → Item → ℕ
left_after s (I.Block r) = r.events
left_after s (I.Parameters r) = s.left
left_after s (I.Trailer r) = s.left
left_after s (I.Event r) = s.left - 1
left_after s (I.Clock r) = s.left
left_after s (I.ClockHigh r) = s.left
left_after s (I.Window r) = s.left
left_after s (I.Raw r) = s.left
left_after s (I.Pair r) = s.left
left_after s (I.Integral r) = s.left
left_after s (I.Time r) = s.left
left_after s (I.Pedestal r) = s.left
left_after s (I.Empty r) = s.left
left_after s (I.Filler r) = s.left
left_after s (I.Scalers r) = s.left
left_after s (I.Scaler r) = s.left

unfoldable pub after : Scan → Item → Scan
after s x = record { place = onward s.place; slot = slot_after s x; left = left_after s x; stage = stage_after s x }

-- a proof that computes opens this file and what it leans on by one name
unfoldable pub all_open : Unit {0}
unfolding onward after Rattle.limits.specs.Limits.all_open
all_open = tt
