-- `search::over_after` meets its contract. The invariant: the search after `k` has the answer of the search after `s`. Assumes nothing.
use Rattle.std.proofs.Common.{◌+◌, ◌-◌, ◌≡◌, sym, ◌∙◌, arith, rules, length}
use Rattle.search.specs.ChunkLaws.{passed_none, passed_then, passed_all, one_found, none_found}
use Rattle.search.proofs.over_after.Goals as goal

pub loop-k-init : goal.loop-k-init
loop-k-init c = passed_none _ _ _ (search rules)

pub returns-then-found-ne0 : goal.returns-then-found-ne0
returns-then-found-ne0 c = one_found _ _ _ _ _ _ c.loop-k.invariant c.first_over-found.ensures c.if-found-ne0.true (omega arith)

pub returns-then-far-n : goal.returns-then-far-n
returns-then-far-n c =
    let few = none_found _ _ _ _ _ _ _ c.loop-k.invariant c.first_over-found.ensures in
    passed_all _ _ _ _ (few c.if-found-ne0.false (omega arith) c.quiet_to-far.ensures) (omega arith)

pub loop-k-preserved : goal.loop-k-preserved
loop-k-preserved c =
    let few = none_found _ _ _ _ _ _ _ c.loop-k.invariant c.first_over-found.ensures in
    passed_then _ _ _ _ _ (few c.if-found-ne0.false (omega arith) c.quiet_to-far.ensures) c.quiet_to-k.ensures

pub returns : goal.returns
returns c =
    let head = c.loop-k in
    let n = length c.args.window.now in
    let z : head.k + (n - head.k) ≡ n = omega arith in
    rw z at c.first_over.ensures ∙ sym head.invariant.same
