-- The bits of a word, asked of its bytes joined lowest first. Assumes nothing.
use Rattle.std.specs.Prelude.{ℕ, ◌+◌, ◌*◌, ◌/◌, ◌%◌, ◌^◌, ◌≤◌, ◌<◌, ◌≡◌, refl, Bool, true, false, ◌&&◌, ◌||◌, List, eqb, length, get_or}
use Rattle.std.proofs.Common.{sym, ◌∙◌, arith, eqb-true, eq-eqb}
use Rattle.ground.specs.TestsLaws.{and_left, and_right}
use Rattle.fields.specs.Word.{field_at, put_at}
use Rattle.fields.specs.Tag.{is_defining}
use Rattle.fields.specs.Bytes.{word_of_bytes, words_of_bytes}
use Rattle.measures.specs.Words.{time_fixed}
use Rattle.raw.specs.Plain.{plain}
use Rattle.stretches.specs.Stretches.{turned_at, single, measure}
use Rattle.stretches.specs.WordsLaws.{word_is}

-- two tests that hold together are one
both : (x y : Bool) → (x ≡ true → y ≡ true) → (y ≡ true → x ≡ true) → x ≡ y
both true y f g = sym (f refl)
both false true f g = g refl
both false false f g = refl

module _ (a b c d : ℕ) (ha : a ≤ 255) (hb : b ≤ 255) (hc : c ≤ 255) (hd : d ≤ 255) where
  -- ---- joined lowest first

  t5 : word_of_bytes d c b a / 2 ^ 5 % 2 ^ 3 ≡ a / 32
  t5 = omega arith

  t21 : word_of_bytes d c b a / 2 ^ 21 % 2 ^ 3 ≡ c / 32
  t21 = omega arith

  t3 : word_of_bytes d c b a / 2 ^ 3 % 2 ^ 5 ≡ a / 8
  t3 = omega arith

  t3-10 : word_of_bytes d c b a / 2 ^ 3 % 2 ^ 8 ≡ a / 8 + 32 * (b % 8)
  t3-10 = omega arith

  t23 : word_of_bytes d c b a / 2 ^ 23 % 2 ^ 1 ≡ c / 128
  t23 = omega arith

  t16 : word_of_bytes d c b a / 2 ^ 16 % 2 ^ 16 ≡ c + 256 * d
  t16 = omega arith

  -- ---- the word's own

  w0 : word_of_bytes a b c d / 2 ^ 0 % 2 ^ 16 ≡ 256 * c + d
  w0 = omega arith

  w29 : word_of_bytes a b c d / 2 ^ 29 % 2 ^ 3 ≡ a / 32
  w29 = omega arith

  w13 : word_of_bytes a b c d / 2 ^ 13 % 2 ^ 3 ≡ c / 32
  w13 = omega arith

  w31 : word_of_bytes a b c d / 2 ^ 31 % 2 ^ 1 ≡ a / 128
  w31 = omega arith

  w27 : word_of_bytes a b c d / 2 ^ 27 % 2 ^ 4 ≡ a / 8 % 16
  w27 = omega arith

  w15 : word_of_bytes a b c d / 2 ^ 15 % 2 ^ 4 ≡ b % 8 * 2 + c / 128
  w15 = omega arith

  -- ---- the same tests

  same_plain : eqb (field_at (word_of_bytes d c b a) 5 3) 0 && eqb (field_at (word_of_bytes d c b a) 21 3) 0 ≡ plain (word_of_bytes a b c d)
  unfolding plain field_at
  same_plain = rw (t5, t21, w29, w13)

  low_single : eqb (c + 256 * d) 32 ≡ eqb (256 * c + d) 8192
  low_single =
      both _ _
      (λ h. (let e : c + 256 * d ≡ 32 = eqb-true _ _ h in eq-eqb (256 * c + d) 8192 (omega arith)))
      (λ h. (let e : 256 * c + d ≡ 8192 = eqb-true _ _ h in eq-eqb (c + 256 * d) 32 (omega arith)))

  same_single : eqb (field_at (word_of_bytes d c b a) 5 3) 0 && eqb (field_at (word_of_bytes d c b a) 16 16) 32 ≡ single (word_of_bytes a b c d)
  unfolding single field_at
  same_single = rw (t5, t16, w29, w0, low_single)

  -- bit 31 and the type are the high bits of the first byte
  same_type : (type : ℕ) → type < 16 → eqb (a / 8) (16 + type) ≡ eqb (a / 128) 1 && eqb (a / 8 % 16) type
  same_type type l = both _ _ to back
    where
      to : eqb (a / 8) (16 + type) ≡ true → eqb (a / 128) 1 && eqb (a / 8 % 16) type ≡ true
      to h =
          let e : a / 8 ≡ 16 + type = eqb-true _ _ h in
          rw (eq-eqb (a / 128) 1 (omega arith)) (eq-eqb (a / 8 % 16) type (omega arith))

      back : eqb (a / 128) 1 && eqb (a / 8 % 16) type ≡ true → eqb (a / 8) (16 + type) ≡ true
      back h =
          let e : a / 128 ≡ 1 = eqb-true _ _ (and_left _ (eqb (a / 8 % 16) type) h) in
          let f : a / 8 % 16 ≡ type = eqb-true _ _ (and_right (eqb (a / 128) 1) _ h) in
          eq-eqb (a / 8) (16 + type) (omega arith)

  in_place : (n : ℕ) → eqb ((a / 8 * 2 ^ 3 + 0 % 2 ^ 3) % 2 ^ 32) (8 * n) ≡ eqb (a / 8) n
  in_place n =
      let z : (a / 8 * 2 ^ 3 + 0 % 2 ^ 3) % 2 ^ 32 ≡ 8 * (a / 8) = omega arith in
      rw z
      (both _ _
      (λ h. (let e : 8 * (a / 8) ≡ 8 * n = eqb-true _ _ h in eq-eqb (a / 8) n (omega arith)))
      (λ h. (let e : a / 8 ≡ n = eqb-true _ _ h in eq-eqb (8 * (a / 8)) (8 * n) (omega arith))))

  same_tag : (type : ℕ) → type < 16 → eqb (put_at 0 3 (field_at (word_of_bytes d c b a) 3 5)) (8 * (16 + type)) ≡ is_defining type (word_of_bytes a b c d)
  unfolding is_defining field_at put_at
  same_tag type l = rw (t3, w31, w27) (in_place (16 + type) ∙ same_type type l)

  -- a time's zero bits stand beside its type, but for the last
  same_zeros : eqb (a / 8 + 32 * (b % 8)) 24 && eqb (c / 128) 0 ≡ eqb (a / 8) 24 && eqb (b % 8 * 2 + c / 128) 0
  same_zeros = both _ _ to back
    where
      to : eqb (a / 8 + 32 * (b % 8)) 24 && eqb (c / 128) 0 ≡ true → eqb (a / 8) 24 && eqb (b % 8 * 2 + c / 128) 0 ≡ true
      to h =
          let e : a / 8 + 32 * (b % 8) ≡ 24 = eqb-true _ _ (and_left _ (eqb (c / 128) 0) h) in
          let f : c / 128 ≡ 0 = eqb-true _ _ (and_right (eqb (a / 8 + 32 * (b % 8)) 24) _ h) in
          rw (eq-eqb (a / 8) 24 (omega arith)) (eq-eqb (b % 8 * 2 + c / 128) 0 (omega arith))

      back : eqb (a / 8) 24 && eqb (b % 8 * 2 + c / 128) 0 ≡ true → eqb (a / 8 + 32 * (b % 8)) 24 && eqb (c / 128) 0 ≡ true
      back h =
          let e : a / 8 ≡ 24 = eqb-true _ _ (and_left _ (eqb (b % 8 * 2 + c / 128) 0) h) in
          let f : b % 8 * 2 + c / 128 ≡ 0 = eqb-true _ _ (and_right (eqb (a / 8) 24) _ h) in
          rw (eq-eqb (a / 8 + 32 * (b % 8)) 24 (omega arith)) (eq-eqb (c / 128) 0 (omega arith))

  same_time : eqb (field_at (word_of_bytes d c b a) 3 8) 24 && eqb (field_at (word_of_bytes d c b a) 23 1) 0
      ≡ is_defining 8 (word_of_bytes a b c d) && time_fixed (word_of_bytes a b c d)
  unfolding field_at time_fixed is_defining
  same_time = rw (t3-10, t23, w31, w27, w15, ← same_type 8 (omega arith)) same_zeros

  same_measure : (eqb (put_at 0 3 (field_at (word_of_bytes d c b a) 3 5)) 184 || eqb (put_at 0 3 (field_at (word_of_bytes d c b a) 3 5)) 208)
      || (eqb (field_at (word_of_bytes d c b a) 3 8) 24 && eqb (field_at (word_of_bytes d c b a) 23 1) 0)
      ≡ measure (word_of_bytes a b c d)
  unfolding measure
  same_measure = rw (same_tag 7 (omega arith), same_tag 10 (omega arith), same_time)

-- ---- a word of the bytes

module _ (bytes : List ℕ) (k : ℕ) (fits : (i : ℕ) → get_or bytes i 0 ≤ 255) (within : 4 * k + 4 ≤ length bytes) where
  pub turned_plain : eqb (field_at (turned_at bytes k) 5 3) 0 && eqb (field_at (turned_at bytes k) 21 3) 0 ≡ plain (get_or (words_of_bytes bytes) k 0)
  turned_plain = rw (word_is bytes k within) (same_plain _ _ _ _ (fits (4 * k)) (fits (4 * k + 1)) (fits (4 * k + 2)) (fits (4 * k + 3)))

  pub turned_single : eqb (field_at (turned_at bytes k) 5 3) 0 && eqb (field_at (turned_at bytes k) 16 16) 32 ≡ single (get_or (words_of_bytes bytes) k 0)
  turned_single = rw (word_is bytes k within) (same_single _ _ _ _ (fits (4 * k)) (fits (4 * k + 1)) (fits (4 * k + 2)) (fits (4 * k + 3)))

  pub turned_measure : (eqb (put_at 0 3 (field_at (turned_at bytes k) 3 5)) 184 || eqb (put_at 0 3 (field_at (turned_at bytes k) 3 5)) 208)
      || (eqb (field_at (turned_at bytes k) 3 8) 24 && eqb (field_at (turned_at bytes k) 23 1) 0)
      ≡ measure (get_or (words_of_bytes bytes) k 0)
  turned_measure = rw (word_is bytes k within) (same_measure _ _ _ _ (fits (4 * k)) (fits (4 * k + 1)) (fits (4 * k + 2)) (fits (4 * k + 3)))
