-- Two results that the statement of a call from C allows are equal: the number, and the numbers that were lent. Assumes nothing.
use Rattle.std.specs.Prelude.{ℕ, ◌≡◌, List}
use Rattle.std.proofs.Common.{ap, ◌∙◌}
use Rattle.ground.specs.ResultLaws.{one_result}
use Rattle.refusals.specs.Refusal.{if_accepted}
use Rattle.hostcount.specs.Face.{CountFace, LatchFace, ResetFace}

-- the numbers follow from the number that C gets
alike : (n new : List ℕ) {x y : List ℕ} {r q k : ℕ} → r ≡ k → q ≡ k → x ≡ if_accepted r new n → y ≡ if_accepted q new n → (r ≡ q) × (x ≡ y)
alike n new f g p q =
    let e = one_result f g in
    (e, one_result (p ∙ ap (λ (j : ℕ). if_accepted j new n) e) q)

pub count_face_unique : (n samples : List ℕ) (r q : ℕ) (x y : List ℕ) → CountFace n samples r x → CountFace n samples q y → (r ≡ q) × (x ≡ y)
count_face_unique n samples r q x y f g = alike n _ f.number g.number f.numbers g.numbers

pub latch_face_unique : (n : List ℕ) (r q : ℕ) (x y : List ℕ) → LatchFace n r x → LatchFace n q y → (r ≡ q) × (x ≡ y)
latch_face_unique n r q x y f g = alike n _ f.number g.number f.numbers g.numbers

pub reset_face_unique : (n : List ℕ) (r q : ℕ) (x y : List ℕ) → ResetFace n r x → ResetFace n q y → (r ≡ q) × (x ≡ y)
reset_face_unique n r q x y f g = alike n _ f.number g.number f.numbers g.numbers
