-- `timing::n1_of` meets its contract. The invariant: the search below `k` has the answer of the whole search. Assumes nothing.
use Rattle.std.proofs.Common.{refl, sym, ◌∙◌, arith}
use Rattle.ground.specs.SearchLaws.{greatest_pass, greatest_here, greatest_end}
use Rattle.timing.specs.Time.{n1}
use Rattle.timing.specs.TimeLaws.{at_most_yes, at_most_no}
use Rattle.timing.proofs.n1_of.Goals as goal

pub loop-k-init : goal.loop-k-init
unfolding n1
loop-k-init c = refl

pub returns-then-amp_at-vmid : goal.returns-then-amp_at-vmid
returns-then-amp_at-vmid c = sym (c.loop-k.invariant ∙ greatest_here _ _ (omega arith) (at_most_yes _ _ _ (omega arith)))

pub loop-k-preserved : goal.loop-k-preserved
loop-k-preserved c = c.loop-k.invariant ∙ greatest_pass _ _ (omega arith) (at_most_no _ _ _ (omega arith))

pub returns : goal.returns
returns c = sym (c.loop-k.invariant ∙ greatest_end _ _ (omega arith))
