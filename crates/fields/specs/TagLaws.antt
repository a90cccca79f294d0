-- What the tests of a tag say. Assumes nothing.
use Rattle.std.specs.Prelude.{ℕ, ◌≡◌, Bool, true, eqb}
use Rattle.std.proofs.Common.{eqb-true}
use Rattle.ground.specs.TestsLaws.{and_left, and_right}
use Rattle.fields.specs.Word.{read}
use Rattle.fields.specs.Tag.{is_defining, is_continuation}

pub record Defined (type word : ℕ) : Type 0 where
  pub bit : read 31 31 word ≡ 1
  pub tag : read 30 27 word ≡ type

pub defined : (type word : ℕ) → is_defining type word ≡ true → Defined type word
unfolding is_defining
defined type word d =
    let bit : Bool = eqb (read 31 31 word) 1 in
    let tag : Bool = eqb (read 30 27 word) type in
    record { bit = eqb-true (read 31 31 word) 1 (and_left bit tag d); tag = eqb-true (read 30 27 word) type (and_right bit tag d) }

pub continued : (word : ℕ) → is_continuation word ≡ true → read 31 31 word ≡ 0
unfolding is_continuation
continued word d = eqb-true (read 31 31 word) 0 d
