-- `modes::channel_length` meets its contract.
use Rattle.std.proofs.Common.{◌≡◌, sym, ap, ◌∙◌, true, arith, ltb-true, ltb-false, length}
use Rattle.search.specs.Search.{tc_from}
use Rattle.finder.specs.Find.{searchable}
use Rattle.finder.specs.FindLaws.{searched}
use Rattle.modes.specs.InnerLaws.{any_first, channel_quiet, length_channel}
use Rattle.modes.proofs.channel_length.Goals as goal
use Rattle.modes.proofs.channel_length.Goals.{Else-not-can_search}

pub returns-then-not-can_search : goal.returns-then-not-can_search
returns-then-not-can_search c = rw (sym c.can_search.ensures ∙ c.if-not-can_search.true)

-- where the second test is made
module _ (c : Else-not-can_search) where
  asked : searchable (length c.args.row.now) c.args.common.nsa c.args.common.limit ≡ true
  asked = sym c.can_search.ensures ∙ c.if-not-can_search.false

pub returns-then-not-any_over : goal.returns-then-not-any_over
returns-then-not-any_over c =
    let a = c.args in
    let none : tc_from a.row.now a.threshold 0 ≡ 0 = omega (arith, ltb-false 0 (tc_from a.row.now a.threshold 0) (sym (any_first a.row.now a.threshold) ∙ sym c.any_over.ensures ∙ c.if-not-any_over.true)) in
    rw (asked (goal.at.returns-then-not-any_over c).Else-not-can_search) (sym (ap length (channel_quiet a.common a.threshold 0 a.row.now none)))

pub count_found-requires : goal.count_found-requires
count_found-requires c =
    let a = c.args in
    (asked (goal.at.count_found-requires c).Else-not-can_search, ltb-true 0 (tc_from a.row.now a.threshold 0) (sym (any_first a.row.now a.threshold) ∙ sym c.any_over.ensures ∙ c.if-not-any_over.false))

pub returns : goal.returns
returns c =
    let a = c.args in
    rw (asked (goal.at.returns c).Else-not-can_search) (c.count_found.ensures ∙ sym (length_channel a.common a.threshold 0 a.row.now (searched _ _ _ (asked (goal.at.returns c).Else-not-can_search)).some))
