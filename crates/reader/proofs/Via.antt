-- What a callee says of its result, and a test of that result: the test of what the callee says. Assumes nothing.
use mathlib.Core.Path.{◌≡◌, sym, ◌∙◌}

pub via : {A : Type 0} {r x y : A} → r ≡ x → r ≡ y → x ≡ y
via p q = sym p ∙ q
