-- The laws of a page: writers one after another, and what a page holds where all fits. Assumes nothing.
use Rattle.std.specs.Prelude.{ℕ, suc, ◌+◌, ◌≤◌, ◌<◌, min, ◌≡◌, refl, true, false, List, [], ◌∷◌, ◌++◌, leb, length, take, drop, set, get_or}
use Rattle.std.proofs.Common.{sym, ap, ap₂, ◌∙◌, append_assoc, drop-drop, arith, zero-add, add-one, lt-ltb, le-ltb, le-leb, length-set, drop_of_length-le, take_at, drop-cons}
use Rattle.std.proofs.lemmas.Bool.{lt-leb}
use Rattle.std.proofs.lemmas.Bool.Decides.{nat_tests}
use Rattle.std.proofs.lemmas.List.{nil_from_length}
use Rattle.std.proofs.Math.Seq.{set_out}
use Rattle.std.proofs.lemmas.List.Edits.{sets, sets-eq}
use borrow.Rule.Slice.PartMut.{put_mid}
use Rattle.written.specs.Page.{Page, farthest, past, put_byte, put}

pub put_nil : (p : Page) → put p [] ≡ p
unfolding put
put_nil p = refl

pub put_append : (p : Page) (xs ys : List ℕ) → put p (xs ++ ys) ≡ put (put p xs) ys
unfolding put
put_append p [] ys = refl
put_append p (x ∷ xs) ys = put_append (put_byte p x) xs ys

-- one writer after another
pub put_then : (p q r : Page) (xs ys : List ℕ) → q ≡ put p xs → r ≡ put q ys → r ≡ put p (xs ++ ys)
put_then p q r xs ys e f = f ∙ ap (λ (x : Page). put x ys) e ∙ sym (put_append p xs ys)

pub put_length : (p : Page) (xs : List ℕ) → length (put p xs).0 ≡ length p.0
unfolding put
put_length p [] = refl
put_length p (x ∷ xs) = put_length (put_byte p x) xs ∙ length-set p.0 p.1 x

-- ---- the three ways of one byte

pub put_here : (l : List ℕ) (at b : ℕ) → at < farthest → ◌≡◌ {A = Page} (set l at b, at + 1) (put (l, at) (b ∷ []))
unfolding put
put_here l at b h = rw (lt-ltb at farthest h)

pub put_past : (l : List ℕ) (at b : ℕ) → length l ≤ at → at < farthest → ◌≡◌ {A = Page} (l, at + 1) (put (l, at) (b ∷ []))
unfolding put
put_past l at b k h = rw (lt-ltb at farthest h, set_out l at b k)

pub put_stay : (l : List ℕ) (at b : ℕ) → length l ≤ at → farthest ≤ at → ◌≡◌ {A = Page} (l, at) (put (l, at) (b ∷ []))
unfolding put
put_stay l at b k h = rw (le-ltb at farthest h, set_out l at b k)

-- ---- a loop over bytes: a turn, and the end

pub put_turn : (p q : Page) (s : List ℕ) (i : ℕ) → i < length s → q ≡ put p (get_or s i 0 ∷ []) → put p (drop i s) ≡ put q (drop (i + 1) s)
unfolding put
put_turn p q s i h e = rw (drop-cons s i 0 h, add-one i, e)

pub put_done : (p : Page) (s : List ℕ) (i : ℕ) → length s ≤ i → put p (drop i s) ≡ p
unfolding put
put_done p s i h = rw (drop_of_length-le s h)

-- ---- from the first place on: where all fits the bytes stand in front, the rest is as it was

past_le : (at : ℕ) → at ≤ farthest → past at ≤ farthest
past_le at h = grind (arith, nat_tests)

past_min : (at n : ℕ) → at ≤ farthest → min (past at + n) farthest ≡ min (at + suc n) farthest
past_min at n h = grind (arith, nat_tests)

place_of : (p : Page) (xs : List ℕ) → p.1 ≤ farthest → (put p xs).1 ≡ min (p.1 + length xs) farthest
unfolding put
place_of p [] h = omega arith
place_of p (x ∷ xs) h = place_of (put_byte p x) xs (past_le p.1 h) ∙ past_min p.1 (length xs) h

pub place_all : (l xs : List ℕ) → (put (l, 0) xs).1 ≡ min (length xs) farthest
place_all l xs = place_of (l, 0) xs (omega arith) ∙ rw zero-add

as_sets : (l : List ℕ) (at : ℕ) (xs : List ℕ) → at + length xs ≤ farthest → (put (l, at) xs).0 ≡ sets l at xs
unfolding put
as_sets l at [] h = refl
as_sets l at (x ∷ xs) h = ap (λ (k : ℕ). (put (set l at x, k) xs).0) next ∙ as_sets (set l at x) (suc at) xs (omega arith)
  where
    next : past at ≡ suc at
    next = rw (lt-ltb at farthest (omega arith)) (add-one at)

pub put_all : (l xs : List ℕ) → length xs ≤ length l → length l ≤ farthest → (put (l, 0) xs).0 ≡ xs ++ drop (length xs) l
put_all l xs h k = as_sets l 0 xs (omega arith) ∙ sets-eq xs l 0 (omega arith) ∙ rw zero-add

-- bytes that fit, in one piece
pub put_over : (l xs : List ℕ) (at k : ℕ) → k ≡ length xs → at + length xs ≤ length l → length l ≤ farthest → ◌≡◌ {A = Page} (put_mid at k l xs, at + length xs) (put (l, at) xs)
put_over l xs at k e h m = ap₂ (λ (b : List ℕ) (n : ℕ). (b, n)) (piece ∙ sym (as_sets l at xs (omega arith))) (sym (place_of (l, at) xs (omega arith) ∙ omega arith))
  where
    piece : put_mid at k l xs ≡ sets l at xs
    piece = rw (e, drop-drop, ← append_assoc) (sym (sets-eq xs l at h))

pub all_fits : (l all : List ℕ) (r : ℕ) (l' : List ℕ) → length all ≤ length l → length l < farthest → ◌≡◌ {A = Page} (l', r) (put (l, 0) all) → (r ≡ min (length all) farthest) × (leb (length all) (length l) ≡ true) × (l' ≡ all ++ drop (length all) l)
all_fits l all r l' h m g = (ap (λ (p : Page). p.1) g ∙ place_all l all, le-leb (length all) (length l) h, ap (λ (p : Page). p.0) g ∙ put_all l all h (omega arith))

-- what was written aside, as far as it came
pub aside : (l all l' : List ℕ) (n : ℕ) → ◌≡◌ {A = Page} (l', n) (put (l, 0) all) → n ≤ length l → length l < farthest → take n l' ≡ all
aside l all l' n e h m =
    let count : n ≡ min (length all) farthest = ap (λ (p : Page). p.1) e ∙ place_all l all in
    let size : n ≡ length all = omega arith in
    ap (λ (p : Page). take n p.0) e ∙ ap (take n) (put_all l all (omega arith) (omega arith)) ∙ take_at all (drop (length all) l) n (sym size)

-- ---- put on no page first, and so counted; then where all fits

module _ (all l none : List ℕ) (n : ℕ) (e : ◌≡◌ {A = Page} (none, n) (put ([], 0) all)) where
  pub none_put : none ≡ []
  none_put = nil_from_length none (ap (λ (p : Page). length p.0) e ∙ put_length ([], 0) all)

  pub none_count : n ≡ min (length all) farthest
  none_count = ap (λ (p : Page). p.1) e ∙ place_all [] all

  pub short : length (none ++ l) < n → leb (length all) (length l) ≡ false
  short h =
      let k : length l < n = rw none_put at h in
      lt-leb (length all) (length l) (omega (arith, none_count))

  pub fitting : (r : ℕ) (l' : List ℕ) → n ≤ length (none ++ l) → length l < farthest → ◌≡◌ {A = Page} (l', r) (put (none ++ l, 0) all) → (r ≡ min (length all) farthest) × (leb (length all) (length l) ≡ true) × (l' ≡ all ++ drop (length all) l)
  fitting r l' h m g =
      let k : n ≤ length l = rw none_put at h in
      all_fits l all r l' (omega (arith, none_count)) m (rw none_put at g)
