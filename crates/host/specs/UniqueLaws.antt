-- Two results that the statement of a call from C allows are equal: the number, and all that was lent. Assumes nothing.
use Rattle.std.specs.Prelude.{ℕ, ◌≡◌, Bool, List}
use Rattle.std.proofs.Common.{subst}
use Rattle.ground.specs.ResultLaws.{one_result}
use Rattle.host.specs.Face.{SetUpFace, OpenBlockFace, OpenEventFace, PostFace, CloseFace, FinishFace}

pub set_up_face_unique : (m n : List ℕ) (r q : ℕ) (x y : List ℕ) → SetUpFace m n r x → SetUpFace m n q y → (r ≡ q) × (x ≡ y)
set_up_face_unique m n r q x y f g =
    let e = one_result f.number g.number in
    let h = subst (λ (k : ℕ). SetUpFace m n k x) e f in
    (e, one_result h.numbers g.numbers)

pub open_block_face_unique : (n words : List ℕ) (block events r q : ℕ) (x y u v : List ℕ) → OpenBlockFace n words block events r x u → OpenBlockFace n words block events q y v
    → (r ≡ q) × ((x ≡ y) × (u ≡ v))
open_block_face_unique n words block events r q x y u v f g =
    let e = one_result f.number g.number in
    let h = subst (λ (k : ℕ). OpenBlockFace n words block events k x u) e f in
    (e, (one_result h.numbers g.numbers, one_result h.buffer g.buffer))

pub open_event_face_unique : (n : List ℕ) (event time r q : ℕ) (x y : List ℕ) → OpenEventFace n event time r x → OpenEventFace n event time q y → (r ≡ q) × (x ≡ y)
open_event_face_unique n event time r q x y f g =
    let e = one_result f.number g.number in
    let h = subst (λ (k : ℕ). OpenEventFace n event time k x) e f in
    (e, one_result h.numbers g.numbers)

pub post_face_unique : (n store : List ℕ) (c : ℕ) (w : List ℕ) (r q : ℕ) (x y u v : List ℕ) → PostFace n store c w r x u → PostFace n store c w q y v
    → (r ≡ q) × ((x ≡ y) × (u ≡ v))
post_face_unique n store c w r q x y u v f g =
    let e = one_result f.number g.number in
    let h = subst (λ (k : ℕ). PostFace n store c w k x u) e f in
    (e, (one_result h.numbers g.numbers, one_result h.rows g.rows))

pub close_face_unique : (n store words : List ℕ) (asked : Bool) (r q : ℕ) (x y u v : List ℕ) → CloseFace n store words asked r x u → CloseFace n store words asked q y v
    → (r ≡ q) × ((x ≡ y) × (u ≡ v))
close_face_unique n store words asked r q x y u v f g =
    let e = one_result f.number g.number in
    let h = subst (λ (k : ℕ). CloseFace n store words asked k x u) e f in
    (e, (one_result h.numbers g.numbers, one_result h.buffer g.buffer))

pub finish_face_unique : (n words : List ℕ) (r q : ℕ) (x y u v : List ℕ) → FinishFace n words r x u → FinishFace n words q y v → (r ≡ q) × ((x ≡ y) × (u ≡ v))
finish_face_unique n words r q x y u v f g =
    (one_result f.number g.number, (one_result f.numbers g.numbers, one_result f.buffer g.buffer))
