-- A scan comes back from its numbers. Assumes nothing.
use Rattle.std.specs.Prelude.{ℕ, ◌≡◌, true, false, List, length, replicate}
use Rattle.std.proofs.Math.Path.{refl}
use Rattle.std.proofs.Common.{◌∙◌, arith, eqb-true}
use Rattle.ground.specs.SpliceLaws.{splice_all}
use Rattle.ground.specs.TestsLaws.{and_left}
use Rattle.copies.specs.CopiesLaws.{pasted_fits}
use Rattle.scan.specs.After.{start_of}
use Rattle.scan.specs.declared.Stage.{Stage}
use Rattle.scan.specs.declared.Stage.TheVariants as P
use Rattle.scan.specs.declared.Scan.{Scan}
use Rattle.cursors.specs.Cursors.{scan_count, cursor_of, is_scan, scan_from, scan_stored}

-- the numbers of a scan are as many as a scan has
pub scan_count_lem : (n : List ℕ) → is_scan n ≡ true → length n ≡ scan_count
unfolding is_scan
scan_count_lem n e = eqb-true _ _ (and_left _ _ (and_left _ _ e))

-- over so many numbers a scan's stand alone
pub scan_over : (n : List ℕ) (s : Scan) → is_scan n ≡ true → scan_stored n s ≡ cursor_of s
unfolding cursor_of
scan_over n s e = let k = scan_count_lem n e in pasted_fits n 0 (cursor_of s) (omega arith) ∙ splice_all n (cursor_of s) (omega arith)

module _ (place slot left : ℕ) where
  scan_at : Stage → Scan
  scan_at p = record { place = place; slot = slot; left = left; stage = p }

  back : (p : Stage) → scan_from (cursor_of (scan_at p)) ≡ scan_at p
  unfolding scan_from cursor_of scan_at
  back P.Start = refl
  back P.Head = refl
  back P.Front = refl
  back P.Opened = refl
  back (P.Timed bits) = refl
  back P.Items = refl
  back (P.Window pairs true) = refl
  back (P.Window pairs false) = refl
  back (P.Raw pairs true) = refl
  back (P.Raw pairs false) = refl
  back (P.Tail fillers) = refl
  back (P.Scalers words) = refl

  is : (p : Stage) → is_scan (cursor_of (scan_at p)) ≡ true
  unfolding is_scan cursor_of scan_at
  is P.Start = refl
  is P.Head = refl
  is P.Front = refl
  is P.Opened = refl
  is (P.Timed bits) = refl
  is P.Items = refl
  is (P.Window pairs true) = refl
  is (P.Window pairs false) = refl
  is (P.Raw pairs true) = refl
  is (P.Raw pairs false) = refl
  is (P.Tail fillers) = refl
  is (P.Scalers words) = refl

-- a scan comes back from its numbers
pub scan_back : (s : Scan) → scan_from (cursor_of s) ≡ s
unfolding scan_at
scan_back s = back s.place s.slot s.left s.stage

-- and they are a scan's
pub scan_is : (s : Scan) → is_scan (cursor_of s) ≡ true
unfolding scan_at
scan_is s = is s.place s.slot s.left s.stage

-- zeros are the scan before a block's first word
pub scan_zeros : scan_from (replicate scan_count 0) ≡ start_of
unfolding scan_from
scan_zeros = refl

pub start_zeros : cursor_of start_of ≡ replicate scan_count 0
unfolding cursor_of
start_zeros = refl
