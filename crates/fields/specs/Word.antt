-- A word and its fields in plain arithmetic. Assumes nothing.
use Rattle.std.specs.Prelude.{ℕ, ◌+◌, ◌-◌, ◌*◌, ◌/◌, ◌%◌, ◌^◌, Bool, true, ◌&&◌, List, [], ◌∷◌, leb}

-- the `width` bits of `word` from bit `place` on
unfoldable pub field_at : ℕ → ℕ → ℕ → ℕ
field_at word place width = word / 2 ^ place % 2 ^ width

-- `value` on top of the low `place` bits of `word`, in 32 bits
unfoldable pub put_at : ℕ → ℕ → ℕ → ℕ
put_at word place value = (value * 2 ^ place + word % 2 ^ place) % 2 ^ 32

-- the bits high to low of a word, both counted: `read 26 22 word` are bits 26-22
abbrev pub read : ℕ → ℕ → ℕ → ℕ
read high low word = field_at word low (high + 1 - low)

-- a field of a layout: bits high to low hold the value
pub record Field : Type 0 where
  pub high : ℕ
  pub low : ℕ
  pub value : ℕ

abbrev pub bits : ℕ → ℕ → ℕ → Field
bits high low value = record { high = high; low = low; value = value }

abbrev pub width_of : Field → ℕ
width_of f = f.high + 1 - f.low

-- the word of a layout, its fields listed from the highest down: each value, reduced to its width, at its place
abbrev pub pack : List Field → ℕ
pack [] = 0
pack (f ∷ fs) = f.value % 2 ^ width_of f * 2 ^ f.low + pack fs

-- each value is within its width
abbrev pub fit : List Field → Bool
fit [] = true
fit (f ∷ []) = leb f.value (2 ^ width_of f - 1)
fit (f ∷ g ∷ fs) = leb f.value (2 ^ width_of f - 1) && fit (g ∷ fs)

-- a proof that computes opens this file by one name
unfoldable pub all_open : Unit {0}
unfolding field_at put_at
all_open = tt
