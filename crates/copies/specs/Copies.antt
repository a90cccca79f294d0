-- Values copied into a lent slice. Assumes nothing.
use Rattle.std.specs.Prelude.{ℕ, cond, List}
use Rattle.ground.specs.Splice.{splice, has_room}

-- `new` stands in `out` from place `at`, and all else is as it was; without room for all of `new` nothing is written
abbrev pub pasted : {A : Type 0} → List A → ℕ → List A → List A
pasted out at new = cond (has_room out at new) (splice out at new) out
