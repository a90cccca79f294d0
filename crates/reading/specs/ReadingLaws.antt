-- Two results allowed by a call's statement are equal. Assumes nothing.
use Rattle.std.specs.Prelude.{ℕ, ◌≡◌, List}
use Rattle.ground.specs.ResultLaws.{one_result}
use Rattle.reading.specs.Reading.{NextFace}

pub next_face_unique : (n words out : List ℕ) (r q : ℕ) (x y u v : List ℕ) → NextFace n words out r x u → NextFace n words out q y v
    → (r ≡ q) × ((x ≡ y) × (u ≡ v))
next_face_unique n words out r q x y u v f g =
    (one_result f.number g.number, (one_result f.numbers g.numbers, one_result f.cells g.cells))
