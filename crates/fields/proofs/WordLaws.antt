-- The laws of packing, once over place and width and once over every layout. Assumes nothing.
use Rattle.std.specs.Prelude.{ℕ, zero, suc, ◌+◌, ◌-◌, ◌*◌, ◌/◌, ◌%◌, ◌^◌, ◌≤◌, ◌<◌, ◌≡◌, refl, Bool, true, false, ◌&&◌, List, [], ◌∷◌, T, leb, eqb}
use Rattle.std.proofs.Common.{sym, ap, ap₂, ◌∙◌, subst, lt_irrefl, lt_of_lt_of_le, le-add_left, suc-mul, zero-add, add_assoc, mul_assoc, add-mul, mod-lt, mod-eq_of_lt, zero-mul, arith, ne_eqb, leb→le, eqb→eq, pow_pos, pow-add, lt_of_le_ones}
use Rattle.std.proofs.Math.Nat.{mod-mod, zero-mod}
use Rattle.std.proofs.Math.Arith.{digits_lt}
use Rattle.std.specs.Int.Bits.{bit_and}
use Rattle.std.proofs.lemmas.Nat.Bits.{and_high}
use Rattle.std.proofs.Math.Dec.{eqb-suc-zero}
use Rattle.std.proofs.Math.Pow.{high, low, mod-mod-pow}
use Rattle.std.proofs.lemmas.Nat.{mod-pow-add}
use Rattle.fields.specs.Word.{field_at, put_at, read, Field, width_of, pack, fit}

-- the fields lie side by side, from bit n - 1 down to bit 0, and none is empty
abbrev pub tiles : ℕ → List Field → Bool
tiles n [] = eqb n 0
tiles n (f ∷ fs) = eqb n (f.high + 1) && (leb f.low f.high && tiles f.low fs)

abbrev pub values : List Field → List ℕ
values [] = []
values (f ∷ fs) = f.value ∷ values fs

-- what stands in a word at the places of the fields
abbrev pub reads : List Field → ℕ → List ℕ
reads [] word = []
reads (f ∷ fs) word = read f.high f.low word ∷ reads fs word

-- the fields put in one by one, from the lowest up
abbrev pub stack : List Field → ℕ
stack [] = 0
stack (f ∷ fs) = put_at (stack fs) f.low f.value

both : (a b : Bool) → T (a && b) → T a × T b
both true b h = (tt, h)
both false b h = absurd h

record Tile (n : ℕ) (f : Field) (fs : List Field) : Type 0 where
  top : n ≡ width_of f + f.low
  rest : T (tiles f.low fs)

tile : (n : ℕ) (f : Field) (fs : List Field) → T (tiles n (f ∷ fs)) → Tile n f fs
tile n f fs t =
    let a = both (eqb n (f.high + 1)) (leb f.low f.high && tiles f.low fs) t in
    let b = both (leb f.low f.high) (tiles f.low fs) a.1 in
    let e : n ≡ f.high + 1 = eqb→eq n (f.high + 1) a.0 in
    let l : f.low ≤ f.high = leb→le f.low f.high b.0 in
    record { top = omega arith; rest = b.1 }

fit_both : (f : Field) (fs : List Field) → T (fit (f ∷ fs)) → T (leb f.value (2 ^ width_of f - 1)) × T (fit fs)
fit_both f [] h = (h, tt)
fit_both f (g ∷ fs) h = both (leb f.value (2 ^ width_of f - 1)) (fit (g ∷ fs)) h

-- ---- what was packed is taken apart again, whatever stands above

pack_lt : (n : ℕ) (fs : List Field) → T (tiles n fs) → pack fs < 2 ^ n
pack_lt n [] t = pow_pos n
pack_lt n (f ∷ fs) t =
    let u = tile n f fs t in
    subst (λ (x : ℕ). pack (f ∷ fs) < x) (sym (ap (λ (x : ℕ). 2 ^ x) u.top ∙ pow-add 2 (width_of f) f.low))
    (digits_lt (mod-lt f.value (pow_pos (width_of f))) (pack_lt f.low fs u.rest))

-- a number on top of n bits, and a field on top of p bits: the number stands on the field
regroup : (x n v w p m : ℕ) → n ≡ w + p → x * 2 ^ n + (v * 2 ^ p + m) ≡ (x * 2 ^ w + v) * 2 ^ p + m
regroup x n v w p m e =
    ap (λ (k : ℕ). x * 2 ^ k + (v * 2 ^ p + m)) e
    ∙ ap (λ (k : ℕ). x * k + (v * 2 ^ p + m)) (pow-add 2 w p)
    ∙ ap (λ (k : ℕ). k + (v * 2 ^ p + m)) (sym (mul_assoc x (2 ^ w) (2 ^ p)))
    ∙ sym (add_assoc (x * 2 ^ w * 2 ^ p) (v * 2 ^ p) m)
    ∙ ap (λ (k : ℕ). k + m) (sym (add-mul (x * 2 ^ w) v (2 ^ p)))

reads_pack_on : (x n : ℕ) (fs : List Field) → T (tiles n fs) → T (fit fs) → reads fs (x * 2 ^ n + pack fs) ≡ values fs
unfolding field_at
reads_pack_on x n [] t h = refl
reads_pack_on x n (f ∷ fs) t h =
    ap (reads (f ∷ fs)) same
    ∙ ap₂ (λ (k : ℕ) (ks : List ℕ). k ∷ ks)
    (ap (λ (k : ℕ). k % 2 ^ w) (high above p under) ∙ low x w below)
    (reads_pack_on above p fs u.rest g.1)
  where
    w : ℕ
    w = width_of f

    p : ℕ
    p = f.low

    u : Tile n f fs
    u = tile n f fs t

    g : T (leb f.value (2 ^ w - 1)) × T (fit fs)
    g = fit_both f fs h

    below : f.value < 2 ^ w
    below = lt_of_le_ones w (leb→le f.value (2 ^ w - 1) g.0)

    under : pack fs < 2 ^ p
    under = pack_lt p fs u.rest

    above : ℕ
    above = x * 2 ^ w + f.value

    same : x * 2 ^ n + pack (f ∷ fs) ≡ above * 2 ^ p + pack fs
    same = ap (λ (v : ℕ). x * 2 ^ n + (v * 2 ^ p + pack fs)) (mod-eq_of_lt below) ∙ regroup x n f.value w p (pack fs) u.top

pub reads_pack : (n : ℕ) (fs : List Field) → T (tiles n fs) → T (fit fs) → reads fs (pack fs) ≡ values fs
reads_pack n fs t h =
    ap (reads fs) (sym (ap (λ (k : ℕ). k + pack fs) (zero-mul (2 ^ n)) ∙ zero-add (pack fs)))
    ∙ reads_pack_on 0 n fs t h

-- ---- what was taken apart is packed again

pub pack_reads : (n : ℕ) (fs : List Field) (k : ℕ) → T (tiles n fs) → reads fs k ≡ values fs → pack fs ≡ k % 2 ^ n
unfolding field_at
pack_reads n [] k t e =
    let z : n ≡ 0 = eqb→eq n 0 t in
    let y : k % 1 ≡ 0 = omega arith in
    rw z (sym y)
pack_reads n (f ∷ fs) k t e =
    let u = tile n f fs t in
    let v : k / 2 ^ f.low % 2 ^ width_of f ≡ f.value = cc in
    let m : pack fs ≡ k % 2 ^ f.low = pack_reads f.low fs k u.rest (cc) in
    ap₂ (λ (a b : ℕ). a % 2 ^ width_of f * 2 ^ f.low + b) (sym v) m
    ∙ ap (λ (a : ℕ). a * 2 ^ f.low + k % 2 ^ f.low) (mod-mod (k / 2 ^ f.low) (2 ^ width_of f))
    ∙ sym (mod-pow-add k (width_of f) f.low)
    ∙ ap (λ (a : ℕ). k % 2 ^ a) (sym u.top)

-- ---- fields put in one by one, from the lowest up, are packed

stack_low : (n : ℕ) (fs : List Field) → T (tiles n fs) → n ≤ 32 → stack fs % 2 ^ n ≡ pack fs
unfolding put_at
stack_low n [] t l = zero-mod (2 ^ n)
stack_low n (f ∷ fs) t l =
    let u = tile n f fs t in
    let w = width_of f in
    let p = f.low in
    let is32 : 32 ≡ (32 - n) + (w + p) = omega (arith, u.top) in
    let lower = stack_low p fs u.rest (omega (arith, u.top)) in
    let x = f.value * 2 ^ p + pack fs in
    ap (λ (m : ℕ). (f.value * 2 ^ p + m) % 2 ^ 32 % 2 ^ n) lower
    ∙ ap₂ (λ (a b : ℕ). x % 2 ^ a % 2 ^ b) is32 u.top
    ∙ mod-mod-pow x (32 - n) (w + p)
    ∙ mod-pow-add x w p
    ∙ ap₂ (λ (a b : ℕ). a % 2 ^ w * 2 ^ p + b) (high f.value p (pack_lt p fs u.rest)) (low f.value p (pack_lt p fs u.rest))

pub stacked : (fs : List Field) → T (tiles 32 fs) → stack fs ≡ pack fs
unfolding put_at
stacked [] t = absurd t
stacked (f ∷ fs) t = sym (mod-eq_of_lt (mod-lt _ (pow_pos 32))) ∙ stack_low 32 (f ∷ fs) t (omega arith)

-- ---- a record of any type on a layout

-- taking apart what was built gives the same record
pub taken : {R : Type 0} (fs : List Field) (from : List ℕ → R) {r : R} → from (values fs) ≡ r → T (tiles 32 fs) → T (fit fs) → from (reads fs (pack fs)) ≡ r
taken fs from e t h = ap from (reads_pack 32 fs t h) ∙ e

-- building what was taken apart gives the same word, where the fixed fields are as they should be
pub built : (fs : List Field) (word : ℕ) → word < 2 ^ 32 → T (tiles 32 fs) → reads fs word ≡ values fs → pack fs ≡ word
built fs word l t e = pack_reads 32 fs word t e ∙ mod-eq_of_lt l

pub true_T : {b : Bool} → b ≡ true → T b
true_T e = rw e tt

-- a field is within its width
pub field_lt : (word place width : ℕ) → field_at word place width < 2 ^ width
unfolding field_at
field_lt word place width = mod-lt (word / 2 ^ place) (pow_pos width)

-- a field is 0 exactly where the word has none of its bits, masked out at their place
pub masked_field : (word place width : ℕ) → eqb (bit_and word (2 ^ (width + place) - 2 ^ place)) 0 ≡ eqb (field_at word place width) 0
unfolding field_at
masked_field word p w = ap (λ (x : ℕ). eqb x 0) (and_high word w p) ∙ times_zero (word / 2 ^ p % 2 ^ w)
  where
    over : (x : ℕ) → 2 ^ p ≤ suc x * 2 ^ p
    over x = subst (λ (y : ℕ). 2 ^ p ≤ y) (sym (suc-mul x (2 ^ p))) (le-add_left (2 ^ p) (x * 2 ^ p))

    times_zero : (x : ℕ) → eqb (x * 2 ^ p) 0 ≡ eqb x 0
    times_zero zero = ap (λ (y : ℕ). eqb y 0) (zero-mul (2 ^ p))
    times_zero (suc x) = ne_eqb _ _ (λ e. lt_irrefl 0 (subst (λ (y : ℕ). 0 < y) e (lt_of_lt_of_le (pow_pos p) (over x)))) ∙ sym (eqb-suc-zero x)
