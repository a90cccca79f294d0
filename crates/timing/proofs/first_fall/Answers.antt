-- `timing::first_fall` meets its contract. The invariant: the search after `k` has the answer of the whole search, and sample `k` was read. Assumes nothing.
use Rattle.std.proofs.Common.{refl, sym, ◌∙◌, arith}
use Rattle.ground.specs.SearchLaws.{least_pass, least_here, least_end}
use Rattle.timing.specs.Time.{first_fall}
use Rattle.timing.specs.TimeLaws.{falls_yes, falls_no}
use Rattle.timing.proofs.first_fall.Goals as goal

pub loop-k-init : goal.loop-k-init
unfolding first_fall
loop-k-init c = (c.amp_at-before.ensures.0, refl)

pub returns-then-here-before : goal.returns-then-here-before
returns-then-here-before c =
    sym (c.loop-k.invariant.1 ∙ least_here _ _ _ (omega arith) (falls_yes _ _ (omega arith)))

pub loop-k-preserved : goal.loop-k-preserved
loop-k-preserved c = (
  c.amp_at-here.ensures.0,
  c.loop-k.invariant.1 ∙ least_pass _ _ _ (omega arith) (falls_no _ _ (omega arith)),
)

pub returns : goal.returns
returns c = sym (c.loop-k.invariant.1 ∙ least_end _ _ _ (omega arith))
