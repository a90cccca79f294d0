-- Numbers from a place on, and marks as the bits of a number, there and back. Assumes nothing.
use Prim.Native.Nat.{ℕ, zero, suc, ◌+◌, ◌*◌, ◌/◌, ◌%◌, ◌^◌, ◌≤◌}
use Rattle.std.specs.Prelude.{◌≡◌, Bool, true, false, eqb, length, get_or, drop}
use Rattle.std.proofs.Math.Path.{refl, ap, ap₂}
use Rattle.std.proofs.Common.{sym, ◌∙◌, true≢false, add_comm, add-one, arith, eq-eqb, ne_eqb, eqb-true, drop-cons, shr-shr}
use mathlib.Core.List.{List, [], ◌∷◌, ◌++◌}
use Rattle.std.proofs.lemmas.Nat.{mod-pow-add}
use Rattle.numbers.specs.Numbers.{table, marks_from, mark_bit, marks_number}

-- k numbers from place i, and the rest
pub from_place : (m : List ℕ) (k i : ℕ) → i + k ≤ length m → drop i m ≡ table (λ j. get_or m j 0) k i ++ drop (i + k) m
unfolding table
from_place m zero i h = let e : i ≡ i + 0 = omega arith in ap (λ (j : ℕ). drop j m) e
from_place m (suc k) i h =
    let e : i + 1 + k ≡ i + suc k = omega arith in
    drop-cons m i 0 (omega arith)
    ∙ ap (λ (l : List ℕ). get_or m i 0 ∷ l) (ap (λ (j : ℕ). drop j m) (sym (add-one i)) ∙ from_place m k (i + 1) (omega arith) ∙ ap (λ (j : ℕ). table (λ j. get_or m j 0) k (i + 1) ++ drop j m) e)

pub bit_back : (x : ℕ) → x ≤ 1 → mark_bit (eqb x 1) ≡ x
bit_back x h = go (eqb x 1) refl
  where
    go : (b : Bool) → eqb x 1 ≡ b → mark_bit b ≡ x
    go true e = sym (eqb-true x 1 e)
    go false e = omega (arith, not_one)
      where
        not_one : x ≡ 1 → ⊥
        not_one f = absurd (true≢false (sym (eq-eqb x 1 f) ∙ e))

-- ---- marks

module _ {A : Type 0} where
  table_ext : (g h : ℕ → A) → ((i : ℕ) → g i ≡ h i) → (k i : ℕ) → table g k i ≡ table h k i
  unfolding table
  table_ext g h e zero i = refl
  table_ext g h e (suc k) i = ap₂ (λ (a : A) (l : List A). a ∷ l) (e i) (table_ext g h e k (i + 1))

  table_shift : (g : ℕ → A) (k i : ℕ) → table g k (i + 1) ≡ table (λ j. g (j + 1)) k i
  unfolding table
  table_shift g zero i = refl
  table_shift g (suc k) i = ap (λ (l : List A). g (i + 1) ∷ l) (table_shift g k (i + 1))

bit_odd : (b : Bool) (m : ℕ) → eqb ((mark_bit b + 2 * m) / 2 ^ 0 % 2) 1 ≡ b
bit_odd true m = eq-eqb ((1 + 2 * m) / 2 ^ 0 % 2) 1 (omega arith)
bit_odd false m = ne_eqb ((0 + 2 * m) / 2 ^ 0 % 2) 1 (λ (e : (0 + 2 * m) / 2 ^ 0 % 2 ≡ 1). omega arith)

half : (b : Bool) (m : ℕ) → (mark_bit b + 2 * m) / 2 ≡ m
half true m = omega arith
half false m = omega arith

bit_shift : (x j : ℕ) → eqb (x / 2 ^ (j + 1) % 2) 1 ≡ eqb (x / 2 / 2 ^ j % 2) 1
bit_shift x j = ap (λ (n : ℕ). eqb (n % 2) 1) (ap (λ (k : ℕ). x / 2 ^ k) (add_comm j 1) ∙ sym (shr-shr x 1 j))

bit_next : (b : Bool) (m j : ℕ) → eqb ((mark_bit b + 2 * m) / 2 ^ (j + 1) % 2) 1 ≡ eqb (m / 2 ^ j % 2) 1
bit_next b m j = bit_shift (mark_bit b + 2 * m) j ∙ ap (λ (n : ℕ). eqb (n / 2 ^ j % 2) 1) (half b m)

bits_back : (bs : List Bool) → table (λ i. eqb (marks_number bs / 2 ^ i % 2) 1) (length bs) 0 ≡ bs
unfolding table marks_number
bits_back [] = refl
bits_back (b ∷ bs) =
    let m = marks_number bs in
    ap₂ (λ (a : Bool) (l : List Bool). a ∷ l) (bit_odd b m)
    (table_shift (λ i. eqb ((mark_bit b + 2 * m) / 2 ^ i % 2) 1) (length bs) 0 ∙ table_ext _ _ (bit_next b m) (length bs) 0 ∙ bits_back bs)

pub marks_back : (bs : List Bool) → length bs ≡ 16 → marks_from (marks_number bs) ≡ bs
unfolding marks_from
marks_back bs e = ap (λ (k : ℕ). table (λ i. eqb (marks_number bs / 2 ^ i % 2) 1) k 0) (sym e) ∙ bits_back bs

-- and the other way
pub marks_there : (k x : ℕ) → marks_number (table (λ c. eqb (x / 2 ^ c % 2) 1) k 0) ≡ x % 2 ^ k
unfolding table marks_number
marks_there zero x = omega arith
marks_there (suc k) x =
    let bit : ℕ = mark_bit (eqb (x / 2 ^ 0 % 2) 1) in
    let low : bit ≡ x / 2 ^ 0 % 2 = bit_back (x / 2 ^ 0 % 2) (omega arith) in
    ap (λ (bs : List Bool). bit + 2 * marks_number bs) (table_shift (λ c. eqb (x / 2 ^ c % 2) 1) k 0 ∙ table_ext _ _ (bit_shift x) k 0)
    ∙ ap (λ (m : ℕ). bit + 2 * m) (marks_there k (x / 2))
    ∙ omega (arith, mod-pow-add x k 1)
    ∙ ap (λ (j : ℕ). x % 2 ^ j) (add-one k)
