-- `timing::base_of` meets its contract. Assumes nothing.
use Rattle.std.proofs.Common.{sym, ◌∙◌}
use Rattle.search.specs.SearchLaws.{quiet}
use Rattle.timing.specs.TimeLaws.{base_early, base_low}
use Rattle.timing.proofs.base_of.Goals as goal

pub returns-then-is_early : goal.returns-then-is_early
returns-then-is_early c = sym (base_early _ _ (sym c.is_early.ensures ∙ c.if-is_early.true))

pub vmin_of-low-requires : goal.vmin_of-low-requires
vmin_of-low-requires c = (quiet _ _ (sym c.is_early.ensures ∙ c.if-is_early.false)).four

pub returns : goal.returns
returns c = rw c.vmin_of-low.ensures (sym (base_low _ _ (sym c.is_early.ensures ∙ c.if-is_early.false)))
