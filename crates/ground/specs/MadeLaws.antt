-- An array that `from_fn` makes, as a list. Assumes nothing.
use Rattle.std.specs.Prelude.{ℕ, zero, suc, ◌+◌, ◌≤◌, ◌<◌, ◌≡◌, List, length, get_or}
use Rattle.std.proofs.Common.{sym, ◌∙◌, subst, ap, arith}
use Rattle.std.proofs.Math.Decide.{dec_le}
use Rattle.std.proofs.lemmas.List.{same_lists}
use Rattle.std.specs.Fn.{Mut, Called}
use Rattle.std.specs.Array.{IsFromFnResult, IsFromFnResultFrom}

-- calls of f at the places below n leave it as it was, and give what h does
module _ {F B : Type 0} (g : Mut F (ℕ × Unit {0}) B) (f : F) (n : ℕ) (h : ℕ → B) (gives : (i : ℕ) (y : B) (q : F) → i < n → Called g f (i, tt) y q → (q ≡ f) × (y ≡ h i)) where
  made_from : (ys : List B) (i m k : ℕ) (d : B) → IsFromFnResultFrom g f ys i m → i + m ≡ n → i ≤ k → k < n → get_or ys k d ≡ h k
  made_from ys i zero k d r e a b = absurd (omega arith)
  made_from ys i (suc m) k d r e a b =
      let call = gives i r.1 r.0 (omega arith) r.3 in
      elim (dec_le k i) [
        | yes l ↦ (let e : i ≡ k = omega arith in ap (λ (j : ℕ). get_or ys j d) (sym e) ∙ r.2.1 d ∙ call.1 ∙ ap h e)
        | no l ↦ made_from ys (i + 1) m k d (subst (λ (p : F). IsFromFnResultFrom g p ys (i + 1) m) call.0 r.4) (omega arith) (omega arith) b
      ]

  pub made : (ys zs : List B) → IsFromFnResult g f ys n → length zs ≡ n → ((k : ℕ) (d : B) → k < n → get_or zs k d ≡ h k) → ys ≡ zs
  made ys zs r e each = same_lists ys zs (r.long ∙ sym e) (λ k d l. let b : k < n = omega (arith, r.long, l) in made_from ys 0 n k d r.each (omega arith) (omega arith) b ∙ sym (each k d b))
