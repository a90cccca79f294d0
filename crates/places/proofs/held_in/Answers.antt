-- `places::held_in` meets its contract: the fold joins the tests of all numbers, each beside its limit. Assumes nothing.
use Rattle.std.proofs.Common.{true, ◌&&◌, leb, ◌∙◌, rules, tests}
use Rattle.std.proofs.lemmas.Iterator.{YieldsList-from_slice, YieldsList-from_zip}
use Rattle.std.proofs.lemmas.Iterator.Consumers.{fold_from_yields_List}
use Rattle.places.specs.PlacesLaws.{held_other, held_fold}
use Rattle.places.proofs.held_in.Goals as goal

pub returns-then-numbers-limits : goal.returns-then-numbers-limits
returns-then-numbers-limits c =
    let limits = c.args.limits.now in
    let numbers = c.args.numbers.now in
    fold_from_yields_List _ (λ good p. good && leb p.0 p.1) true _ c.fold.ensures.ran (YieldsList-from_zip (YieldsList-from_slice numbers cc) (YieldsList-from_slice limits cc)) (λ a x b q k. search (rules, tests))
    ∙ held_fold limits numbers c.if-numbers-limits.true

pub returns-else-numbers-limits : goal.returns-else-numbers-limits
returns-else-numbers-limits c = rw (held_other _ _ c.if-numbers-limits.false) (search (tests, rules))
