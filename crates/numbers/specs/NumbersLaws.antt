-- The loops over numbers and marks. Assumes nothing.
use Prim.Native.Nat.{ℕ, zero, suc, ◌+◌, ◌*◌, ◌/◌, ◌%◌, ◌^◌, ◌-◌, ◌≤◌, ◌<◌}
use Rattle.std.specs.Prelude.{◌≡◌, refl, Bool, true, false, List, [], ◌∷◌, ◌++◌, ltb, eqb, length, get_or, drop, set}
use Rattle.std.specs.Int.{from_bool}
use Rattle.std.specs.List.{push}
use Rattle.std.proofs.Common.{sym, ap, ◌∙◌, add-one, pow-suc, lt_of_lt_of_le, mod-lt, lt-ltb, le-ltb, pow_mono, pow_pos, append-nil, append_assoc, length-append, length-drop, drop-cons}
use native.Mathlib.Omega.{arith}
use Rattle.std.proofs.Math.Arith.{mod-mul}
use Rattle.std.proofs.Math.Pow.{pow-lt}
use Rattle.std.proofs.Math.Seq.{sets, drop-length}
use Rattle.numbers.specs.Numbers.{table, mark_bit, marks_number}

-- ---- loops that fill a list, one place a turn: what is left to write

module _ {A : Type 0} where
  pub table_turn : (g : ℕ → A) (m : ℕ) (l : List A) (i : ℕ) → i < m → sets l i (table g (m - i) i) ≡ sets (set l i (g i)) (i + 1) (table g (m - (i + 1)) (i + 1))
  unfolding table
  table_turn g m l i h =
      let e : m - i ≡ suc (m - (i + 1)) = omega arith in
      rw e (ap (λ (k : ℕ). sets (set l i (g i)) k (table g (m - (i + 1)) (i + 1))) (sym (add-one i)))

  pub table_done : (g : ℕ → A) (m : ℕ) (l : List A) (i : ℕ) → m ≤ i → sets l i (table g (m - i) i) ≡ l
  unfolding table
  table_done g m l i h = let e : m - i ≡ 0 = omega arith in rw e

-- ---- marks

-- bit c, asked by two remainders
pub bit_asked : (n c : ℕ) → ltb (n % 2 ^ c) (n % (2 * 2 ^ c)) ≡ eqb (n / 2 ^ c % 2) 1
bit_asked n c = rw split (go (n / 2 ^ c % 2) (mod-lt (n / 2 ^ c) (omega arith)))
  where
    split : n % (2 * 2 ^ c) ≡ (n / 2 ^ c % 2) * 2 ^ c + n % 2 ^ c
    split = mod-mul n (omega arith) (pow_pos c)

    go : (d : ℕ) → d < 2 → ltb (n % 2 ^ c) (d * 2 ^ c + n % 2 ^ c) ≡ eqb d 1
    go zero h = le-ltb (n % 2 ^ c) (0 * 2 ^ c + n % 2 ^ c) (omega arith)
    go (suc zero) h = lt-ltb (n % 2 ^ c) (1 * 2 ^ c + n % 2 ^ c) (omega (arith, pow_pos c))
    go (suc (suc d)) h = absurd (omega arith)

pub bit_small : (b c : ℕ) → b ≡ 2 ^ c → c < 16 → (0 < b) × (b < 65536)
bit_small b c e h = (omega (arith, pow_pos c), omega (arith, pow-lt {i = c} {j = 16} h))

pub bit_next : (b c : ℕ) → b ≡ 2 ^ c → 2 * b ≡ 2 ^ (c + 1)
bit_next b c e = rw (add-one c, pow-suc 2 c) (omega arith)

-- a mark as a number, as std has it
pub bit_of : (b : Bool) → from_bool b ≡ mark_bit b
bit_of true = refl
bit_of false = refl

pub bit_le : (b : Bool) → mark_bit b ≤ 1
bit_le true = omega arith
bit_le false = omega arith

pub marks_small : (bs : List Bool) → marks_number bs < 2 ^ length bs
unfolding marks_number
marks_small [] = omega arith
marks_small (b ∷ bs) = rw (pow-suc 2 (length bs)) (omega (arith, marks_small bs, bit_le b))

-- from the last channel down

pub marks_turn : (bs : List Bool) (i j : ℕ) → i < length bs → suc i ≡ j → marks_number (drop i bs) ≡ mark_bit (get_or bs i false) + 2 * marks_number (drop j bs)
unfolding marks_number
marks_turn bs i j h e = ap marks_number (drop-cons bs i false h ∙ ap (λ (k : ℕ). get_or bs i false ∷ drop k bs) e)

pub marks_at_lem : (bs : List Bool) (i : ℕ) → length bs ≤ 16 → marks_number (drop i bs) < 65536
marks_at_lem bs i h = lt_of_lt_of_le (marks_small (drop i bs)) (pow_mono {j = 16} (rw (length-drop i bs) (omega arith)))

pub marks_none : (bs : List Bool) → marks_number (drop (length bs) bs) ≡ 0
unfolding marks_number
marks_none bs = rw (drop-length bs)

-- the number of the marks behind those that are left
pub record Behind (marks left : List Bool) (number : ℕ) : Type 0 where
  pub behind : List Bool
  pub whole : marks ≡ left ++ behind
  pub is : number ≡ marks_number behind

pub behind_none : (marks left : List Bool) → left ≡ marks → Behind marks left 0
unfolding marks_number
behind_none marks left e = record { behind = []; whole = sym (append-nil left ∙ e); is = refl }

module _ {marks left : List Bool} {number : ℕ} (b : Behind marks left number) where
  pub behind_more : (more : List Bool) (mark : Bool) → left ≡ push more mark → Behind marks more (mark_bit mark + 2 * number)
  unfolding marks_number
  behind_more more mark e =
      record {
        behind = mark ∷ b.behind;
        whole = b.whole ∙ ap (λ (l : List Bool). l ++ b.behind) e ∙ append_assoc more (mark ∷ []) b.behind;
        is = ap (λ (n : ℕ). mark_bit mark + 2 * n) b.is;
      }

  pub behind_small : length marks ≤ 16 → number < 65536
  behind_small h =
      rw b.is (lt_of_lt_of_le (marks_small b.behind) (pow_mono {j = 16} (omega (arith, ap length b.whole, length-append left b.behind))))

  pub behind_all : length left ≡ 0 → number ≡ marks_number marks
  behind_all e = b.is ∙ ap marks_number (sym (b.whole ∙ none left e))
    where
      none : (l : List Bool) → length l ≡ 0 → l ++ b.behind ≡ b.behind
      none [] e = refl
      none (x ∷ l) e = absurd (omega arith)
