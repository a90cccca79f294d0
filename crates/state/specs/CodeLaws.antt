-- What the code's own way to make a test or a count comes to. Assumes nothing.
use Rattle.std.specs.Prelude.{ℕ, ◌+◌, ◌-◌, ◌*◌, ◌^◌, ◌≤◌, ◌<◌, ◌≡◌, Bool, true, false, not, ◌&&◌, cond, List, [], ◌∷◌, fold}
use Rattle.std.proofs.Math.Path.{sym}
use Rattle.std.proofs.Common.{◌∙◌, mul-le-mul, arith}
use Rattle.std.proofs.Math.Bool.{and_assoc, and-true}
use Rattle.state.specs.State.{no_marks}

-- a fold over the marks that tests all of them
no_marks_from : (clear : Bool) (posted : List Bool) → fold (λ clear mark. clear && not mark) clear posted ≡ clear && no_marks posted
unfolding no_marks
no_marks_from clear [] = sym (and-true clear)
no_marks_from clear (m ∷ ms) = no_marks_from (clear && not m) ms ∙ and_assoc clear (not m) (no_marks ms)

pub no_marks_fold : (posted : List Bool) → fold (λ clear mark. clear && not mark) true posted ≡ no_marks posted
no_marks_fold posted = no_marks_from true posted

pub head_le : (parameters : Bool) → cond {A = ℕ} parameters 2 1 ≤ 2
head_le true = omega arith
head_le false = omega arith

-- the least words of as many events as a field can count do not wrap
pub words_fit : (closed times : ℕ) → closed < 2 ^ 32 → times < 2 ^ 32 → closed * (1 + times) ≤ (2 ^ 32 - 1) * 2 ^ 32
words_fit closed times h k = mul-le-mul {n₂ = 2 ^ 32 - 1} {m₂ = 2 ^ 32} (omega arith) (omega arith)
