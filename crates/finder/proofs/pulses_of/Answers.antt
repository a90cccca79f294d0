-- `finder::pulses_of` meets its contract. Assumes nothing.
use Rattle.std.proofs.Common.{sym, ◌∙◌}
use Rattle.finder.specs.FindLaws.{find_all_lem, find_no, searched}
use Rattle.finder.proofs.pulses_of.Goals as goal

pub all_pulses-requires : goal.all_pulses-requires
all_pulses-requires c =
    let e = searched _ _ _ (sym c.can_search.ensures ∙ c.if-can_search.true) in
    (e.short, e.some, e.within, e.few)

pub returns-then-can_search : goal.returns-then-can_search
returns-then-can_search c = c.all_pulses.ensures ∙ sym (find_all_lem _ _ _ _ _ (sym c.can_search.ensures ∙ c.if-can_search.true))

pub returns-else-can_search : goal.returns-else-can_search
returns-else-can_search c = c.no_pulses.ensures ∙ sym (find_no _ _ _ _ _ (sym c.can_search.ensures ∙ c.if-can_search.false))
