-- The laws of lines: the digits are the fewest, cells and lines one after another. Assumes nothing.
use Rattle.std.specs.Prelude.{ℕ, zero, suc, ◌+◌, ◌-◌, ◌/◌, ◌%◌, ◌^◌, ◌≤◌, ◌<◌, ◌≡◌, refl, Bool, List, [], ◌∷◌, ◌++◌, eqb, ltb, length, drop, get_or}
use Rattle.std.proofs.Common.{sym, ap, ◌∙◌, true≢false, append_assoc, append-nil, arith, add-one, lt_irrefl, le_trans, lt_of_lt_of_le, lt_of_not-le, lt-ltb, le-ltb, lit<, lit≤, drop_of_length-le, drop-cons}
use Rattle.std.proofs.Math.Nat.{pow-le-pow_right}
use Rattle.ground.specs.Search.{least}
use Rattle.ground.specs.SearchLaws.{IsLeast, LeastSays, least_says, least_one}
use Rattle.io.specs.Digits.{last_digits, IsDigitCount}
use Rattle.written.specs.Page.{Page, put}
use Rattle.written.specs.PageLaws.{put_nil, put_append, put_then}
use Rattle.written.specs.Line.{places_of, decimal, cell_text, cells_text, Line, line_text, text_of, cell_of, cells_of}

-- ---- what `io::decimal` gives

least_is : (p : ℕ → Bool) (s e j k : ℕ) → LeastSays p s e k → IsLeast p s e j → j ≡ k
least_is p s e j zero r i = absurd (true≢false (sym i.holds ∙ r j i.after i.within))
least_is p s e j (suc k) r i = least_one p s e j (suc k) i r

up : (i j : ℕ) → i ≤ j → 10 ^ i ≤ 10 ^ j
up i j z = pow-le-pow_right (lit< tt) z

pub fewest_le : (n r : ℕ) → n < 2 ^ 64 → IsDigitCount 10 1 n r → r ≤ 20
fewest_le n r s w = omega (arith, short)
  where
    short : r < 21
    short = lt_of_not-le (λ (z : 21 ≤ r). lt_irrefl n (lt_of_lt_of_le s (le_trans (lit≤ {m = 2 ^ 64} {n = 10 ^ 20} tt) (le_trans (up 20 (r - 1) (omega arith)) (w.2 (omega arith))))))

pub decimal_is : (n r : ℕ) → n < 2 ^ 64 → IsDigitCount 10 1 n r → last_digits 10 r n ≡ decimal n
unfolding decimal places_of
decimal_is n r s w = ap (λ (k : ℕ). last_digits 10 k n) (least_is p 0 20 r (least p 0 20) (least_says p 0 20) fewest)
  where
    p : ℕ → Bool
    p k = ltb n (10 ^ k)

    fewest : IsLeast p 0 20 r
    fewest =
        record {
          after = w.0;
          within = fewest_le n r s w;
          holds = lt-ltb n (10 ^ r) w.1;
          none = λ j a b. le-ltb n (10 ^ j) (le_trans (up j (r - 1) (omega arith)) (w.2 (omega arith)));
        }

-- ---- a loop over cells: a turn, and the end

pub cells_turn : (p q : Page) (cs : List ℕ) (m i : ℕ) → i < length cs → q ≡ put p (9 ∷ cell_text (cell_of (eqb (m % 2) 1) (get_or cs i 0)))
    → put p (cells_text (cells_of m (drop i cs))) ≡ put q (cells_text (cells_of (m / 2) (drop (i + 1) cs)))
unfolding cells_text
cells_turn p q cs m i h e =
    let rest = cells_text (cells_of (m / 2) (drop (i + 1) cs)) in
    ap (λ (l : List ℕ). put p (cells_text (cells_of m l))) (drop-cons cs i 0 h ∙ ap (λ (n : ℕ). get_or cs i 0 ∷ drop n cs) (sym (add-one i)))
    ∙ put_append p (9 ∷ cell_text (cell_of (eqb (m % 2) 1) (get_or cs i 0))) rest
    ∙ ap (λ (x : Page). put x rest) (sym e)

pub cells_done : (p : Page) (cs : List ℕ) (m i : ℕ) → length cs ≤ i → put p (cells_text (cells_of m (drop i cs))) ≡ p
unfolding cells_text
cells_done p cs m i h = rw (drop_of_length-le cs h) (put_nil p)

-- ---- lines one after another

pub text_one : (l : Line) → text_of (l ∷ []) ≡ line_text l
unfolding text_of
text_one l = append-nil (line_text l)

pub text_append : (ls ms : List Line) → text_of (ls ++ ms) ≡ text_of ls ++ text_of ms
unfolding text_of
text_append [] ms = refl
text_append (l ∷ ls) ms = rw (text_append ls ms) (sym (append_assoc (line_text l) (text_of ls) (text_of ms)))

-- writers of no line, of one, of two parts
pub say_none : (p : Page) (ls : List Line) → ls ≡ [] → p ≡ put p (text_of ls)
unfolding text_of
say_none p ls e = sym (ap (λ (l : List Line). put p (text_of l)) e ∙ put_nil p)

pub say_one : (p q : Page) (ls : List Line) (l : Line) → q ≡ put p (line_text l) → ls ≡ l ∷ [] → q ≡ put p (text_of ls)
say_one p q ls l e f = e ∙ ap (put p) (sym (ap text_of f ∙ text_one l))

pub say_both : (p q r : Page) (ls ms : List Line) → q ≡ put p (text_of ls) → r ≡ put q (text_of ms) → r ≡ put p (text_of (ls ++ ms))
say_both p q r ls ms e f = put_then p q r (text_of ls) (text_of ms) e f ∙ ap (put p) (sym (text_append ls ms))
