-- A frame channel by channel: how long each list is, and what stands at a place of it. Assumes nothing.
use Rattle.std.specs.Prelude.{◌≡◌, ℕ, zero, suc, ◌+◌, ◌%◌, ◌^◌, ◌<◌, ◌≤◌, min, Bool, true, false, cond, not, ◌&&◌, List, [], ◌∷◌, map, length, nat_lt, slice_index, slice_index_or, refl}
use Rattle.std.proofs.Common.{ap, ap₂, arith, lt-ltb, le-ltb, ltb-true, ltb-false}
use Rattle.ground.specs.TestsLaws.{Under}
use Rattle.samples.specs.Sample.{amp, is_over}
use Rattle.samples.specs.SampleLaws.{amp_le}
use Rattle.scalers.specs.Scalers.{wrapped, overs_of, rises_of, added_to}
use Rattle.scalers.specs.Inner.{narrow_of, plus_of}

-- ---- lists side by side, of one length

pub length_overs : (ts f : List ℕ) → length ts ≡ length f → length (overs_of ts f) ≡ length f
unfolding overs_of
length_overs [] f h = h
length_overs (t ∷ ts) [] h = absurd (omega arith)
length_overs (t ∷ ts) (x ∷ xs) h = ap suc (length_overs ts xs (omega arith))

pub overs_at : (ts f : List ℕ) (c : ℕ) (d : Bool) → c < length ts → c < length f → slice_index_or (overs_of ts f) c d ≡ is_over (slice_index ts c) (slice_index f c)
unfolding overs_of
overs_at [] f c d h k = absurd (omega arith)
overs_at (t ∷ ts) [] c d h k = absurd (omega arith)
overs_at (t ∷ ts) (x ∷ xs) zero d h k = refl
overs_at (t ∷ ts) (x ∷ xs) (suc c) d h k = overs_at ts xs c d (omega arith) (omega arith)

pub length_rises : (bs ns : List Bool) → length bs ≡ length ns → length (rises_of bs ns) ≡ length ns
unfolding rises_of
length_rises [] ns h = h
length_rises (b ∷ bs) [] h = absurd (omega arith)
length_rises (b ∷ bs) (n ∷ ns) h = ap suc (length_rises bs ns (omega arith))

pub rises_at : (bs ns : List Bool) (c : ℕ) → c < length bs → c < length ns → slice_index (rises_of bs ns) c ≡ cond (slice_index_or ns c false && not (slice_index_or bs c false)) 1 0
unfolding rises_of
rises_at [] ns c h k = absurd (omega arith)
rises_at (b ∷ bs) [] c h k = absurd (omega arith)
rises_at (b ∷ bs) (n ∷ ns) zero h k = refl
rises_at (b ∷ bs) (n ∷ ns) (suc c) h k = rises_at bs ns c (omega arith) (omega arith)

pub length_plus : (xs ys : List ℕ) → length xs ≡ length ys → length (plus_of xs ys) ≡ length xs
unfolding plus_of
length_plus [] ys h = refl
length_plus (x ∷ xs) [] h = absurd (omega arith)
length_plus (x ∷ xs) (y ∷ ys) h = ap suc (length_plus xs ys (omega arith))

pub plus_at : (xs ys : List ℕ) (c : ℕ) → c < length xs → c < length ys → slice_index (plus_of xs ys) c ≡ slice_index xs c + slice_index ys c
unfolding plus_of
plus_at [] ys c h k = absurd (omega arith)
plus_at (x ∷ xs) [] c h k = absurd (omega arith)
plus_at (x ∷ xs) (y ∷ ys) zero h k = refl
plus_at (x ∷ xs) (y ∷ ys) (suc c) h k = plus_at xs ys c (omega arith) (omega arith)

pub length_added : (xs ys : List ℕ) → length xs ≡ length ys → length (added_to xs ys) ≡ length xs
unfolding added_to
length_added [] ys h = refl
length_added (x ∷ xs) [] h = absurd (omega arith)
length_added (x ∷ xs) (y ∷ ys) h = ap suc (length_added xs ys (omega arith))

pub added_at : (xs ys : List ℕ) (c : ℕ) → c < length xs → c < length ys → slice_index (added_to xs ys) c ≡ wrapped (slice_index xs c + slice_index ys c)
unfolding added_to
added_at [] ys c h k = absurd (omega arith)
added_at (x ∷ xs) [] c h k = absurd (omega arith)
added_at (x ∷ xs) (y ∷ ys) zero h k = refl
added_at (x ∷ xs) (y ∷ ys) (suc c) h k = added_at xs ys c (omega arith) (omega arith)

-- ---- what a frame adds

-- a channel rises at most once
pub under_more : (m : ℕ) (xs : List ℕ) (bs ns : List Bool) → Under m xs → Under (m + 1) (plus_of xs (rises_of bs ns))
unfolding plus_of rises_of
under_more m [] bs ns u = tt
under_more m (x ∷ xs) [] ns u = tt
under_more m (x ∷ xs) (b ∷ bs) [] u = tt
under_more m (x ∷ xs) (b ∷ bs) (n ∷ ns) u = (one (n && not b), under_more m xs bs ns u.1)
  where
    one : (r : Bool) → x + cond r 1 0 ≤ m + 1
    one true = omega (arith, u.0)
    one false = omega (arith, u.0)

pub under_le : (m n : ℕ) (xs : List ℕ) → m ≤ n → Under m xs → Under n xs
under_le m n [] h u = tt
under_le m n (x ∷ xs) h u = (omega (arith, u.0), under_le m n xs h u.1)

-- sums that wrap, added in two goes or in one
pub added_twice : (xs ys zs : List ℕ) → added_to (added_to xs ys) zs ≡ added_to xs (plus_of ys zs)
unfolding added_to plus_of wrapped
added_twice [] ys zs = refl
added_twice (x ∷ xs) [] zs = refl
added_twice (x ∷ xs) (y ∷ ys) [] = refl
added_twice (x ∷ xs) (y ∷ ys) (z ∷ zs) =
    let one : ((x + y) % 2 ^ 32 + z) % 2 ^ 32 ≡ (x + (y + z)) % 2 ^ 32 = omega arith in
    ap₂ (λ (n : ℕ) (ns : List ℕ). n ∷ ns) one (added_twice xs ys zs)

-- ---- thresholds in sixteen bits

over_narrow : (t x : ℕ) → is_over (narrow_of t) x ≡ is_over t x
unfolding is_over narrow_of
over_narrow t x = go (nat_lt t (amp x)) refl
  where
    go : (b : Bool) → nat_lt t (amp x) ≡ b → nat_lt (min t 65535) (amp x) ≡ b
    go true h = lt-ltb (min t 65535) (amp x) (omega (arith, ltb-true t (amp x) h))
    go false h = le-ltb (min t 65535) (amp x) (omega (arith, ltb-false t (amp x) h, amp_le x))

pub overs_narrow : (ts f : List ℕ) → overs_of (map narrow_of ts) f ≡ overs_of ts f
unfolding overs_of
overs_narrow [] f = refl
overs_narrow (t ∷ ts) [] = refl
overs_narrow (t ∷ ts) (x ∷ xs) = ap₂ (λ (b : Bool) (bs : List Bool). b ∷ bs) (over_narrow t x) (overs_narrow ts xs)

pub narrow_under : (ts : List ℕ) → Under 65535 (map narrow_of ts)
unfolding narrow_of
narrow_under [] = tt
narrow_under (t ∷ ts) = (omega arith, narrow_under ts)
