-- `timing::edge_time` meets its contract. Where N1 is there, the amplitudes on both sides of VMID are apart. Assumes nothing.
use Rattle.std.proofs.Common.{◌+◌, ◌/◌, refl, sym, ◌∙◌, arith}
use Rattle.timing.specs.Time.{vmid}
use Rattle.timing.specs.TimeLaws.{edge_is, edge_low, edge_none, edge_some}
use Rattle.timing.proofs.EdgeLaws.{Crosses, crosses_at}
use Rattle.timing.proofs.edge_time.Goals as goal
use Rattle.timing.proofs.edge_time.Goals.{Else-n1-eq0}

pub returns-then-vpeak-low : goal.returns-then-vpeak-low
returns-then-vpeak-low c = c.tc_only.ensures ∙ sym (edge_low _ _ _ _ _ 0 0 c.amp_at-vpeak.ensures.0 c.if-vpeak-low.true)

pub returns-then-n1-eq0 : goal.returns-then-n1-eq0
returns-then-n1-eq0 c =
    c.tc_only-then-n1-eq0.ensures ∙ sym (edge_none _ _ _ _ _ _ _ c.amp_at-vpeak.ensures.0 refl c.n1_of-n1.ensures (omega (arith, c.if-vpeak-low.false)) c.if-n1-eq0.true)

cross : (c : Else-n1-eq0)
    → Crosses c.args.window.now ((c.amp_at-vpeak.result + c.args.low) / 2) c.args.peak c.n1_of-n1.result
unfolding vmid
cross c = crosses_at _ _ _ _ _ _ c.amp_at-vpeak.ensures.0 refl c.n1_of-n1.ensures (omega (arith, c.if-vpeak-low.false)) (omega (arith, c.if-n1-eq0.false))

pub returns : goal.returns
returns c =
    let v = c.amp_at-vpeak.ensures.0 in
    edge_is _ _ _ _ _ _ _ _ v refl c.n1_of-n1.ensures c.amp_at-from.ensures.0 c.amp_at-to.ensures.0
    ∙ sym (edge_some _ _ _ _ _ _ _ v refl c.n1_of-n1.ensures (omega (arith, c.if-vpeak-low.false)) (cross (goal.at.returns c).Else-n1-eq0).from)

pub amp_at-from-requires : goal.amp_at-from-requires
amp_at-from-requires c = omega (arith, cross c)

pub overflow_add-n1 : goal.overflow_add-n1
overflow_add-n1 c = omega (arith, cross (goal.at.overflow_add-n1 c).Else-n1-eq0)

pub amp_at-to-requires : goal.amp_at-to-requires
amp_at-to-requires c = omega (arith, cross (goal.at.amp_at-to-requires c).Else-n1-eq0)

pub overflow_sub-result : goal.overflow_sub-result
overflow_sub-result c = omega (arith, cross (goal.at.overflow_sub-result c).Else-n1-eq0)

pub overflow_sub-result-2 : goal.overflow_sub-result-2
overflow_sub-result-2 c = omega (arith, cross (goal.at.overflow_sub-result-2 c).Else-n1-eq0)

pub nonzero_div-result : goal.nonzero_div-result
nonzero_div-result c = omega (arith, cross (goal.at.nonzero_div-result c).Else-n1-eq0)
