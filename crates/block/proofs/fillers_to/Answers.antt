-- `block::fillers_to` meets its contract. Assumes nothing.
use Rattle.std.proofs.Common.{ℕ, ◌<◌, refl, sym, ap, ◌∙◌, mod-lt, arith}
use Rattle.block.specs.Block.{fillers_to}
use Rattle.block.specs.BlockLaws.{fillers_none}
use Rattle.block.proofs.fillers_to.Goals as goal

pub returns-then-m-eq0 : goal.returns-then-m-eq0
returns-then-m-eq0 c =
    let a = c.args in
    sym (ap (λ (m : ℕ). fillers_to m a.count) c.if-m-eq0.true ∙ fillers_none a.count)

pub overflow_sub-result : goal.overflow_sub-result
overflow_sub-result c =
    let some : 0 < c.args.multiple = omega arith in
    omega (arith, mod-lt c.args.count some)

pub returns : goal.returns
unfolding fillers_to
returns c = refl
