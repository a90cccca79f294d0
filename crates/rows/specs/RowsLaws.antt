-- The rows of the store, and the marks, in turn. Assumes nothing.
use Rattle.std.specs.Prelude.{ℕ, ◌+◌, ◌-◌, ◌*◌, ◌≤◌, ◌<◌, ◌≡◌, Bool, List, [], ◌∷◌, length, get_or, take, drop, leb}
use Rattle.std.proofs.Common.{sym, ap, ◌∙◌, arith, suc-mul, mul-le-mul_right, add-one, leb-true, le-leb, length-take, drop-cons}
use Rattle.std.proofs.Math.Bool.{true, false}
use Rattle.ground.specs.TestsLaws.{every, all_of_lem}
use Rattle.limits.specs.Limits.{most_samples, channels}
use Rattle.settings.specs.declared.Settings.{Settings}
use Rattle.settings.specs.Ranges.{settings_ok}
use Rattle.settings.specs.RangesLaws.{settings_in_range}
use Rattle.rows.specs.Rows.{row, lent_ok}
use Rattle.rows.specs.Inner.{Lent}

-- ---- what is lent

pub lent_says : (s : Settings) (posted : List Bool) (store : List ℕ) → lent_ok s posted store ≡ true → Lent s posted store
unfolding lent_ok
lent_says s posted store h =
    let e = every (settings_ok s ∷ leb (length posted) channels ∷ leb (channels * s.nw) (length store) ∷ []) h in
    record { settings = e.0; marks = leb-true _ _ e.1.0; rows = leb-true _ _ e.1.1.0 }

pub lent_enough : (s : Settings) (posted : List Bool) (store : List ℕ) → Lent s posted store → lent_ok s posted store ≡ true
unfolding lent_ok
lent_enough s posted store l =
    all_of_lem (settings_ok s ∷ leb (length posted) channels ∷ leb (channels * s.nw) (length store) ∷ [])
    (l.settings, (le-leb _ _ l.marks, (le-leb _ _ l.rows, tt)))

-- ---- a row

-- a row ends where the next begins, or before
pub row_end : (c n nw : ℕ) → c < n → c * nw + nw ≤ n * nw
row_end c n nw h = rw (← suc-mul c nw) (mul-le-mul_right nw h)

module _ (s : Settings) (posted : List Bool) (store : List ℕ) (lent : Lent s posted store) where
  -- it lies in the store
  pub row_inside : (c : ℕ) → c < length posted → c * s.nw + s.nw ≤ length store
  row_inside c h = omega (arith, row_end c channels s.nw (omega (arith, lent.marks)), lent.rows)

  pub row_short : (c : ℕ) → length (take (c * s.nw + s.nw - c * s.nw) (drop (c * s.nw) store)) ≤ most_samples
  row_short c = simp length-take (omega (arith, (settings_in_range s lent.settings).nw.1))

-- the part that is lent on is the row
pub part_row : (nw c : ℕ) (store : List ℕ) → take (c * nw + nw - c * nw) (drop (c * nw) store) ≡ row nw c store
unfolding row
part_row nw c store =
    let e : c * nw + nw - c * nw ≡ nw = omega arith in
    rw e

-- the marks from c on: that of channel c, then those from c + 1 on
pub marks_step : (posted : List Bool) (c : ℕ) → c < length posted → drop c posted ≡ get_or posted c false ∷ drop (c + 1) posted
marks_step posted c h = drop-cons posted c false h ∙ ap (λ (n : ℕ). get_or posted c false ∷ drop n posted) (sym (add-one c))
