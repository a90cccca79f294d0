-- `settings::thresholds_ok` meets its contract: the fold joins the tests of all thresholds. Assumes nothing.
use Rattle.std.proofs.Common.{true, ◌&&◌, leb, ◌∙◌, rules, tests}
use Rattle.std.proofs.lemmas.Iterator.{YieldsList-from_slice}
use Rattle.std.proofs.lemmas.Iterator.Consumers.{fold_from_yields_List}
use Rattle.ground.specs.TestsLaws.{all_le_fold}
use Rattle.samples.specs.Sample.{most_amp}
use Rattle.settings.specs.Ranges.{thresholds_ok}
use Rattle.settings.proofs.thresholds_ok.Goals as goal

pub returns : goal.returns
unfolding thresholds_ok
returns c =
    let all = c.args.thresholds.now in
    fold_from_yields_List _ (λ good x. good && leb x most_amp) true _ c.fold.ensures.ran (YieldsList-from_slice all cc) (λ a x b q k. search (rules, tests)) ∙ all_le_fold most_amp all
