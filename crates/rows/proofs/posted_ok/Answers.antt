-- `rows::posted_ok` meets its contract: the fold joins the tests of all rows, each beside its mark.
use Rattle.std.proofs.Common.{true, not, ◌&&◌, ◌||◌, ◌∙◌, rules, tests}
use Rattle.std.proofs.lemmas.Iterator.{YieldsList-from_slice, YieldsList-from_zip}
use Rattle.std.proofs.lemmas.Iterator.Consumers.{fold_from_yields_List}
use Rattle.ground.specs.ChunksLaws.{chunks_given}
use Rattle.samples.specs.Sample.{samples_ok}
use Rattle.rows.proofs.FoldLaws.{some_samples, rows_fold}
use Rattle.rows.proofs.posted_ok.Goals as goal

pub chunks_exact-requires : goal.chunks_exact-requires
chunks_exact-requires c = some_samples _ _ _ c.requires

pub fold-requires-clause-can : goal.fold-requires-clause-can
fold-requires-clause-can c = search (rules, some_samples)

pub returns : goal.returns
returns c =
    let posted = c.args.posted.now in
    let store = c.args.store.now in
    fold_from_yields_List _ (λ good p. good && (not p.0 || samples_ok p.1)) true _ c.fold.ensures.ran
    (YieldsList-from_zip (YieldsList-from_slice posted (cc)) (chunks_given c.args.settings.nw store (some_samples _ _ _ c.requires) (cc) (cc))) (λ a x b q k. search (rules, tests))
    ∙ rows_fold _ posted store c.requires
