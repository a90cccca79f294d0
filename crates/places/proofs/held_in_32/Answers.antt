-- `places::held_in_32` meets its contract: the fold joins the tests of all numbers. Assumes nothing.
use Rattle.std.proofs.Common.{true, ◌&&◌, leb, ◌∙◌, rules, tests}
use Rattle.std.proofs.lemmas.Iterator.{YieldsList-from_slice}
use Rattle.std.proofs.lemmas.Iterator.Consumers.{fold_from_yields_List}
use Rattle.ground.specs.TestsLaws.{all_le_fold}
use Rattle.places.specs.Places.{most32}
use Rattle.places.proofs.held_in_32.Goals as goal

pub returns : goal.returns
returns c =
    let all = c.args.numbers.now in
    fold_from_yields_List _ (λ good x. good && leb x most32) true _ c.fold.ensures.ran (YieldsList-from_slice all cc) (λ a x b q k. search (rules, tests)) ∙ all_le_fold most32 all
