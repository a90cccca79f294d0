-- `runs::sets::raw_end` meets its contract.
use Rattle.std.proofs.Common.{sym, ◌∙◌, arith}
use Rattle.stretches.specs.WordsLaws.{words_count}
use Rattle.stretches.specs.StretchesLaws.{all_none, all_one}
use Rattle.runs.specs.RunsLaws.{raw_run}
use Rattle.runs.proofs.sets.raw_end.Goals as goal

-- behind a pair of one sample
pub returns-then-single_at : goal.returns-then-single_at
returns-then-single_at c =
    let pairs = c.few_end-full.ensures in (
      omega arith,
      raw_run c.requires.1 pairs.1 (all_one (sym c.single_at.ensures ∙ c.if-single_at.true)) (omega arith)
          (omega (arith, pairs.1.ahead)) (omega arith) (omega (arith, words_count c.args.bytes.now))
          (rw (← c.joined_at.ensures) (sym c.is_continuation.ensures ∙ c.if-is_continuation.false)),
    )

-- without one
pub returns-else-is_continuation-2 : goal.returns-else-is_continuation-2
returns-else-is_continuation-2 c =
    let pairs = c.few_end-full.ensures in (
      omega arith,
      raw_run c.requires.1 pairs.1 (all_none _) (omega arith)
          (omega (arith, pairs.1.ahead)) (omega arith) (omega (arith, words_count c.args.bytes.now))
          (rw (← c.joined_at-2.ensures) (sym c.is_continuation-2.ensures ∙ c.if-is_continuation-2.false)),
    )
