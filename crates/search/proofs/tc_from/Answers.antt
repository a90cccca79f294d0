-- `search::tc_from` meets its contract. Assumes nothing.
use Rattle.std.proofs.Common.{◌∙◌}
use Rattle.search.specs.Search.{first_over}
use Rattle.search.specs.SearchLaws.{tc_first, tc_next}
use Rattle.search.proofs.tc_from.Goals as goal

pub returns-then-s-eq0 : goal.returns-then-s-eq0
unfolding first_over
returns-then-s-eq0 c = c.over_after.ensures ∙ tc_first _ _ _ c.if-s-eq0.true

pub returns-else-s-eq0 : goal.returns-else-s-eq0
returns-else-s-eq0 c = c.next_tc.ensures ∙ tc_next _ _ _ c.if-s-eq0.false
