-- A list in chunks: the i-th is the part of the list from its place on. Assumes nothing.
use Rattle.std.specs.Prelude.{ℕ, zero, suc, ◌+◌, ◌*◌, ◌<◌, ◌≡◌, List, get_or, take, drop}
use Rattle.std.specs.Simd.{first_chunks}
use Rattle.std.proofs.Common.{◌∙◌, arith, zero-mul, suc-mul, drop-drop}

module _ {A : Type 0} where
  pub chunk_at : (n count i : ℕ) (w d : List A) → i < count → get_or (first_chunks n count w) i d ≡ take n (drop (i * n) w)
  chunk_at n zero i w d l = absurd (omega arith)
  chunk_at n (suc count) zero w d l = rw zero-mul
  chunk_at n (suc count) (suc i) w d l =
      let z : n + i * n ≡ suc i * n = omega (arith, suc-mul i n) in
      chunk_at n count i (drop n w) d (omega arith) ∙ rw (drop-drop (i * n) n w, z)
