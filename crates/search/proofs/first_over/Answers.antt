-- `search::first_over` meets its contract. The invariant: the search after `s + j` has the answer of the whole search. Assumes nothing.
use Rattle.std.proofs.Common.{◌+◌, ◌≡◌, sym, ◌∙◌, arith}
use Rattle.ground.specs.SearchLaws.{least_pass, least_here, least_end}
use Rattle.search.proofs.first_over.Goals as goal

pub loop-j-init : goal.loop-j-init
loop-j-init c =
    let z : c.args.s + 0 ≡ c.args.s = omega arith in
    rw z

pub returns-then-is_over : goal.returns-then-is_over
returns-then-is_over c = sym (c.loop-j.invariant ∙ least_here _ _ _ (omega arith) (sym c.is_over.ensures ∙ c.if-is_over.true))

pub loop-j-preserved : goal.loop-j-preserved
loop-j-preserved c =
    let z : c.args.s + (c.loop-j.j + 1) ≡ c.args.s + c.loop-j.j + 1 = omega arith in
    rw z (c.loop-j.invariant ∙ least_pass _ _ _ (omega arith) (sym c.is_over.ensures ∙ c.if-is_over.false))

pub returns : goal.returns
returns c = sym (c.loop-j.invariant ∙ least_end _ _ _ (omega arith))
