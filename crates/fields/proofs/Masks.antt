-- Shifts and masks at 32 bits as arithmetic, over any place and width. Assumes nothing.
use Prim.Native.Nat.{ℕ, ◌+◌, ◌-◌, ◌*◌, ◌/◌, ◌%◌, ◌^◌, ◌≤◌, ◌<◌}
use mathlib.Core.Path.{◌≡◌, sym, ap, ap₂, ◌∙◌}
use native.Mathlib.Nat.{add-zero, mul_assoc, one-mul, mod-lt, mod-eq_of_lt, zero-mod, div-eq_of_lt, div-le_self, lt_of_lt_of_le, lt_of_le_of_lt, sub-add_cancel}
use native.Mathlib.Omega.{arith}
use lib.Bits.{bit_and, bit_or, and_mask, or_shifted_r}
use lib.Pow.{pow-add, pow_pos, pow-lt, pow_mono, mod-pow-add, high, low}
use Rattle.fields.specs.Word.{field_at, put_at}

-- `1 << k` is the power
one_shl : (k : ℕ) → k < 32 → 1 * 2 ^ k % 2 ^ 32 ≡ 2 ^ k
one_shl k h = ap (λ (x : ℕ). x % 2 ^ 32) (one-mul (2 ^ k)) ∙ mod-eq_of_lt (pow-lt h)

-- `n & ((1 << k) - 1)`
pub masked : (n k : ℕ) → k < 32 → bit_and n (1 * 2 ^ k % 2 ^ 32 - 1) ≡ n % 2 ^ k
masked n k h = ap (λ (x : ℕ). bit_and n (x - 1)) (one_shl k h) ∙ and_mask n k

-- past the word there are zeros
pub past : (n place width : ℕ) → n < 2 ^ 32 → 32 ≤ place → 0 ≡ field_at n place width
unfolding field_at put_at
past n p w f h = sym (ap (λ (x : ℕ). x % 2 ^ w) (div-eq_of_lt (lt_of_lt_of_le f (pow_mono h))) ∙ zero-mod (2 ^ w))

-- a field as wide as the word is all that lies from its place on
pub whole : (n place width : ℕ) → n < 2 ^ 32 → 32 ≤ width → n / 2 ^ place ≡ field_at n place width
unfolding field_at put_at
whole n p w f h = sym (mod-eq_of_lt (lt_of_le_of_lt (div-le_self n (2 ^ p)) (lt_of_lt_of_le f (pow_mono h))))

-- nothing is put past the word
pub put_past : (n place value : ℕ) → n < 2 ^ 32 → 32 ≤ place → n ≡ put_at n place value
unfolding field_at put_at
put_past n p v f h =
    sym
    (ap (λ (x : ℕ). (v * 2 ^ p + x) % 2 ^ 32) (mod-eq_of_lt (lt_of_lt_of_le f (pow_mono h)))
    ∙ ap (λ (x : ℕ). (v * 2 ^ x + n) % 2 ^ 32) (sym (sub-add_cancel h))
    ∙ low_at (p - 32))
  where
    low_at : (j : ℕ) → (v * 2 ^ (j + 32) + n) % 2 ^ 32 ≡ n
    low_at j =
        ap (λ (x : ℕ). (x + n) % 2 ^ 32) (ap (λ (x : ℕ). v * x) (pow-add 2 j 32) ∙ sym (mul_assoc v (2 ^ j) (2 ^ 32)))
        ∙ low (v * 2 ^ j) 32 f

-- `(n & ((1 << place) - 1)) | (value << place)`
pub put_in : (n place value : ℕ) → place < 32
    → bit_or (bit_and n (1 * 2 ^ place % 2 ^ 32 - 1)) (value * 2 ^ place % 2 ^ 32) ≡ put_at n place value
unfolding field_at put_at
put_in n p v h =
    ap₂ bit_or (masked n p h) shifted
    ∙ or_shifted_r (v % 2 ^ j) p (n % 2 ^ p) lo
    ∙ sym (ap (λ (x : ℕ). (v * 2 ^ p + n % 2 ^ p) % 2 ^ x) is32 ∙ digits (n % 2 ^ p) lo)
  where
    j : ℕ
    j = 32 - p

    is32 : 32 ≡ j + p
    is32 = omega arith

    lo : n % 2 ^ p < 2 ^ p
    lo = mod-lt n (pow_pos p)

    digits : (l : ℕ) → l < 2 ^ p → (v * 2 ^ p + l) % 2 ^ (j + p) ≡ (v % 2 ^ j) * 2 ^ p + l
    digits l hl = mod-pow-add (v * 2 ^ p + l) j p ∙ ap₂ (λ (x y : ℕ). (x % 2 ^ j) * 2 ^ p + y) (high v p hl) (low v p hl)

    shifted : v * 2 ^ p % 2 ^ 32 ≡ (v % 2 ^ j) * 2 ^ p
    shifted =
        ap (λ (x : ℕ). v * 2 ^ p % 2 ^ x) is32
        ∙ ap (λ (x : ℕ). x % 2 ^ (j + p)) (sym (add-zero (v * 2 ^ p)))
        ∙ digits 0 (pow_pos p)
        ∙ add-zero ((v % 2 ^ j) * 2 ^ p)
