-- What a plain pair's bits say. Assumes nothing.
use Rattle.std.specs.Prelude.{ℕ, ◌/◌, ◌%◌, ◌^◌, ◌≡◌, true, eqb}
use Rattle.std.proofs.Common.{arith, eqb-true}
use Rattle.ground.specs.TestsLaws.{and_left, and_right}
use Rattle.fields.specs.Word.{field_at}
use Rattle.fields.specs.Tag.{is_continuation}
use Rattle.raw.specs.Words.{pair_of, pair_fixed}
use Rattle.raw.specs.Plain.{plain}

pub record PlainBits (word : ℕ) : Type 0 where
  pub more : is_continuation word ≡ true
  pub fixed : pair_fixed word ≡ true
  pub first : (pair_of word).nofirst ≡ 0
  pub second : (pair_of word).nosecond ≡ 0

pub plain_bits : (word : ℕ) → plain word ≡ true → PlainBits word
unfolding plain is_continuation pair_fixed pair_of field_at
plain_bits word d =
    let hi : word / 2 ^ 29 % 2 ^ 3 ≡ 0 = eqb-true _ 0 (and_left _ _ d) in
    let lo : word / 2 ^ 13 % 2 ^ 3 ≡ 0 = eqb-true _ 0 (and_right (eqb (word / 2 ^ 29 % 2 ^ 3) 0) _ d) in
    let b31 : word / 2 ^ 31 % 2 ^ 1 ≡ 0 = omega arith in
    let b30 : word / 2 ^ 30 % 2 ^ 1 ≡ 0 = omega arith in
    let b29 : word / 2 ^ 29 % 2 ^ 1 ≡ 0 = omega arith in
    let b14 : word / 2 ^ 14 % 2 ^ 2 ≡ 0 = omega arith in
    let b13 : word / 2 ^ 13 % 2 ^ 1 ≡ 0 = omega arith in
    record { more = rw b31; fixed = rw (b30, b14); first = b29; second = b13 }
