-- `runs::past_items` meets its contract.
use Rattle.std.proofs.Common.{refl, arith}
use Rattle.stretches.specs.WordsLaws.{words_count}
use Rattle.runs.specs.RunsLaws.{onward_by}
use Rattle.runs.proofs.past_items.Goals as goal

pub returns-then-scan-lt-PLACE_MAX : goal.returns-then-scan-lt-PLACE_MAX
returns-then-scan-lt-PLACE_MAX c =
    let here = c.is_behind-behind.ensures c.if-behind.true in
    let events = c.events_end-run.ensures in
    record {
      ahead = events.1.ahead;
      within = λ h. omega arith;
      same =
          onward_by _ (omega (arith, words_count c.args.bytes.now))
          (rw c.word_at.ensures at here)
          events.1 (omega arith) refl;
    }
