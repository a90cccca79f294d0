-- Values that have room, asked by a difference, and copied. Assumes nothing.
use Rattle.std.specs.Prelude.{ℕ, ◌+◌, ◌-◌, ◌≤◌, ◌<◌, ◌≡◌, false, List, ◌++◌, leb, length, take, drop}
use Rattle.std.proofs.Common.{sym, ◌∙◌, arith, le-leb}
use Rattle.std.proofs.lemmas.Bool.{lt-leb}
use Rattle.ground.specs.Splice.{splice}
use Rattle.ground.specs.SpliceLaws.{part_splice}
use Rattle.ground.specs.TestsLaws.{same_test}
use Rattle.copies.specs.Copies.{pasted}

pub room_none : (room at count : ℕ) → room < at → false ≡ leb (at + count) room
room_none room at count h = sym (lt-leb (at + count) room (omega arith))

pub room_left : (room at count : ℕ) → at ≤ room → leb count (room - at) ≡ leb (at + count) room
room_left room at count h = same_test count (room - at) (at + count) room (λ k. omega arith) (λ k. omega arith)

module _ {A : Type 0} where
  pub pasted_fits : (out : List A) (at : ℕ) (new : List A) → at + length new ≤ length out → pasted out at new ≡ splice out at new
  pasted_fits out at new h = rw (le-leb _ _ h)

  pub pasted_none : (out : List A) (at : ℕ) (new : List A) → length out < at + length new → pasted out at new ≡ out
  pasted_none out at new h = rw (lt-leb (at + length new) (length out) h)

  -- what a part that was lent and came back leaves
  pub part_pasted : (out : List A) (at : ℕ) (new ys : List A) → at + length new ≤ length out → ys ≡ new
      → take at out ++ (ys ++ drop (at + length new - at) (drop at out)) ≡ pasted out at new
  part_pasted out at new ys h e = part_splice out at (at + length new) new ys e (omega arith) ∙ sym (pasted_fits out at new h)
