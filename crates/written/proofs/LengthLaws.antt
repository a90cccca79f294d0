-- How long a line is, by how many digits its numbers may have. Assumes nothing.
use Rattle.std.specs.Prelude.{ℕ, zero, suc, ◌+◌, ◌/◌, ◌%◌, ◌^◌, ◌≤◌, ◌<◌, ◌≡◌, refl, Bool, true, List, [], ◌∷◌, ◌++◌, ltb, length}
use Rattle.std.proofs.Common.{sym, ap, ◌∙◌, true≢false, arith, lt-ltb, length-append}
use Rattle.std.proofs.Math.Decide.{dec_le}
use Rattle.ground.specs.Search.{least}
use Rattle.ground.specs.SearchLaws.{LeastSays, least_says}
use Rattle.io.specs.Digits.{last_digits, hex_digit_ascii}
use Rattle.written.specs.Line.{places_of, decimal, Cell, Number, Dash, cells_text, Line, line_of, line_text, text_of}
use Rattle.written.specs.LineLaws.{text_one, text_append}

digits_length : (k n : ℕ) → length (last_digits 10 k n) ≡ k
digits_length zero n = refl
digits_length (suc k) n = rw (length-append (last_digits 10 k (n / 10)) (hex_digit_ascii (n % 10) ∷ [])) (omega (arith, digits_length k (n / 10)))

least_le : (p : ℕ → Bool) (e d k : ℕ) → LeastSays p 0 e k → 0 < d → p d ≡ true → k ≤ d
least_le p e d zero r a h = omega arith
least_le p e d (suc k) r a h =
    elim (dec_le (suc k) d) [
      | yes g ↦ g
      | no g ↦ absurd (true≢false (sym h ∙ r.none d a (omega arith)))
    ]

-- a number below 10 ^ d has at most d digits
pub decimal_le : (n d : ℕ) → 0 < d → n < 10 ^ d → length (decimal n) ≤ d
unfolding decimal places_of
decimal_le n d h k =
    let p : ℕ → Bool = λ j. ltb n (10 ^ j) in
    rw (digits_length (least p 0 20) n) (least_le p 20 d (least p 0 20) (least_says p 0 20) h (lt-ltb n (10 ^ d) k))

-- cells whose numbers have so many digits at most, each given as one less
abbrev pub Below : List Cell → List ℕ → Type 0
Below [] [] = Unit
Below [] (d ∷ ds) = ⊥
Below (c ∷ cs) [] = ⊥
Below (Number n ∷ cs) (d ∷ ds) = (n < 10 ^ suc d) × Below cs ds
Below (Dash ∷ cs) (d ∷ ds) = Below cs ds

-- their bytes, each with its tab
abbrev pub most : List ℕ → ℕ
most [] = 0
most (d ∷ ds) = most ds + (d + 2)

cells_le : (cs : List Cell) (ds : List ℕ) → Below cs ds → length (cells_text cs) ≤ most ds
unfolding cells_text
cells_le [] [] h = omega arith
cells_le [] (d ∷ ds) h = absurd h
cells_le (c ∷ cs) [] h = absurd h
cells_le (Number n ∷ cs) (d ∷ ds) h = omega (arith, length-append (decimal n) (cells_text cs), decimal_le n (suc d) (omega arith) h.0, cells_le cs ds h.1)
cells_le (Dash ∷ cs) (d ∷ ds) h = omega (arith, cells_le cs ds h)

line_le : (name : List ℕ) (cs : List Cell) (ds : List ℕ) (m : ℕ) → Below cs ds → length name + (most ds + 1) ≤ m → length (line_text (line_of name cs)) ≤ m
unfolding line_text
line_le name cs ds m h k =
    omega (arith, length-append name (cells_text cs ++ 10 ∷ []), length-append (cells_text cs) (10 ∷ []), cells_le cs ds h)

-- ---- the bytes of lines

abbrev pub size : List Line → ℕ
size ls = length (text_of ls)

pub size_none : size [] ≡ 0
unfolding text_of
size_none = refl

pub size_both : (ls ms : List Line) → size (ls ++ ms) ≡ size ls + size ms
size_both ls ms = ap length (text_append ls ms) ∙ length-append (text_of ls) (text_of ms)

pub size_one : (name : List ℕ) (cs : List Cell) (ds : List ℕ) (m : ℕ) → Below cs ds → length name + (most ds + 1) ≤ m → size (line_of name cs ∷ []) ≤ m
size_one name cs ds m h k = rw (text_one (line_of name cs)) (line_le name cs ds m h k)
