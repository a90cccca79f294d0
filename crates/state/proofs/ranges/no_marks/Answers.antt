-- `state::ranges::no_marks` meets its contract: the fold joins the tests of all marks. Assumes nothing.
use Rattle.std.proofs.Common.{true, not, ◌&&◌, ◌∙◌, rules, tests}
use Rattle.std.proofs.lemmas.Iterator.{YieldsList-from_slice}
use Rattle.std.proofs.lemmas.Iterator.Consumers.{fold_from_yields_List}
use Rattle.state.specs.CodeLaws.{no_marks_fold}
use Rattle.state.proofs.ranges.no_marks.Goals as goal

pub returns : goal.returns
returns c =
    let posted = c.args.posted.now in
    fold_from_yields_List _ (λ clear mark. clear && not mark) true _ c.fold.ensures.ran (YieldsList-from_slice posted cc) (λ a x b q k. search (rules, tests)) ∙ no_marks_fold posted
