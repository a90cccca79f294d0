-- `search::next_tc` meets its contract. The invariant: the search after `k` has the answer of the whole search. Assumes nothing.
use Rattle.std.proofs.Common.{refl, sym, ◌∙◌, arith}
use Rattle.ground.specs.SearchLaws.{least_pass, least_end}
use Rattle.search.specs.Search.{next_tc}
use Rattle.search.specs.ChunkLaws.{starts_not, starts_quiet}
use Rattle.search.proofs.next_tc.Goals as goal

pub loop-k-init : goal.loop-k-init
unfolding next_tc
loop-k-init c = refl

pub returns-then-not-is_over : goal.returns-then-not-is_over
returns-then-not-is_over c =
    let quiet = sym c.is_over.ensures ∙ c.if-not-is_over.true in
    c.over_after.ensures ∙ sym (c.loop-k.invariant ∙ starts_quiet _ _ _ _ quiet)

pub loop-k-preserved : goal.loop-k-preserved
loop-k-preserved c =
    let over = sym c.is_over.ensures ∙ c.if-not-is_over.false in
    c.loop-k.invariant ∙ least_pass _ _ _ (omega arith) (starts_not _ _ _ over)

pub returns : goal.returns
returns c = sym (c.loop-k.invariant ∙ least_end _ _ _ (omega arith))
