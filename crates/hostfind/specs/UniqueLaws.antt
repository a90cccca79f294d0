-- Two results that the statement of the finder's call from C allows are equal: the number, and all that was lent. Assumes nothing.
use Rattle.std.specs.Prelude.{ℕ, ◌≡◌, List}
use Rattle.std.proofs.Common.{subst}
use Rattle.ground.specs.ResultLaws.{one_result}
use Rattle.hostfind.specs.Found.{FindFace}

pub find_face_unique : (m : List ℕ) (c : ℕ) (w out : List ℕ) (r q : ℕ) (x y : List ℕ) → FindFace m c w out r x → FindFace m c w out q y → (r ≡ q) × (x ≡ y)
find_face_unique m c w out r q x y f g =
    let e = one_result f.number g.number in
    let h = subst (λ (k : ℕ). FindFace m c w out k x) e f in
    (e, one_result h.numbers g.numbers)
