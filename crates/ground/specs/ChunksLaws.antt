-- What `chunks_exact` gives, as a list. Assumes nothing.
use Rattle.std.specs.Prelude.{ℕ, suc, ◌+◌, ◌-◌, ◌/◌, ◌<◌, ◌≡◌, List, ◌∷◌, ◌++◌, length}
use Rattle.std.proofs.Common.{subst, ◌∙◌, arith, add-one, length-append, take_at, drop_at}
use Rattle.std.proofs.Math.Nat.{div-eq-sub-div, div-eq_of_lt}
use Rattle.std.proofs.lemmas.Iterator.{YieldsList}
use Rattle.std.proofs.lemmas.Iterator.Splits.{YieldsList-from_shown_while}
use Rattle.std.specs.declared.slice.ChunksExact.{ChunksExact}
use Rattle.std.specs.Slice.Iter.{chunks_exact_rest, chunks_exact_size, chunks_exact_steps}
use Rattle.ground.specs.Chunks.{chunks}

module _ {A : Type 0} where
  chunk_first : (n : ℕ) (x l : List A) → 0 < n → length x ≡ n → chunks (length (x ++ l) / n) n (x ++ l) ≡ x ∷ chunks (length l / n) n l
  unfolding chunks
  chunk_first n x l h e =
      let long : length (x ++ l) ≡ n + length l = omega (arith, length-append x l, e) in
      let rest : length (x ++ l) - n ≡ length l = omega (arith, long) in
      let count : length (x ++ l) / n ≡ suc (length l / n) = div-eq-sub-div h (omega (arith, long)) ∙ rw rest (add-one (length l / n)) in
      rw (count, take_at x l n e, drop_at x l n e)

  -- its items are the whole chunks
  pub chunks_given : {s : ChunksExact A} (n : ℕ) (l : List A) → 0 < n → chunks_exact_rest s ≡ l → chunks_exact_size s ≡ n
      → YieldsList (chunks_exact_steps {A = A}) (λ x. x.now) s (chunks (length l / n) n l)
  unfolding chunks
  chunks_given {s} n l h e f =
      subst (λ (xs : List A). YieldsList (chunks_exact_steps {A = A}) (λ x. x.now) s (chunks (length xs / n) n xs)) e (
      YieldsList-from_shown_while (chunks_exact_steps {A = A}) (λ x. x.now) (λ t. chunks (length (chunks_exact_rest t) / n) n (chunks_exact_rest t)) (λ t. chunks_exact_size t ≡ n)
      (λ t u p g. rw (div-eq_of_lt {n = length (chunks_exact_rest t)} {m = n} (omega (arith, g.1.0, p))))
      (λ t x u p g. (g.0 ∙ p, rw g.1.0 (chunk_first n x.now (chunks_exact_rest u) h (g.1.1 ∙ p)))) s f
      )
