-- `entries::put_words` meets its contract: the words that are left, put where the text stands, give the page asked for.
use Rattle.std.proofs.Common.{sym, ap, ◌∙◌, arith, rules}
use Rattle.reader.specs.Reader.{judge_at}
use Rattle.entries.specs.AheadLaws.{tail_is, cells_went, cells_other}
use Rattle.entries.proofs.put_words.Goals as goal

pub loop-rest-preserved : goal.loop-rest-preserved
loop-rest-preserved c =
    let l = c.loop-rest in
    let said = rw (c.in-Ok-Some.field-0-is, c.in-Scaler.is) at c.in-Ok-Some.ensures in
    let judged = said.answer ∙ ap (judge_at l.scan) c.of_bytes-word.ensures in (
      search rules,
      l.invariant.1 ∙ cells_went l.rest.now l.scan _ (omega arith) c.in-Scaler.r c.in-Ok-Some.after _ _ (tail_is l.rest.now 4) judged (rw c.from.ensures at c.put_cell-at.ensures),
    )

pub returns-in_default-item : goal.returns-in_default-item
returns-in_default-item c =
    let l = c.loop-rest in
    let said = rw c.in-Ok-Some.field-0-is at c.in-Ok-Some.ensures in
    let judged = said.answer ∙ ap (judge_at l.scan) c.of_bytes-word.ensures in
    sym (l.invariant.1 ∙ cells_other l.rest.now l.scan _ (omega arith) c.in-Ok-Some.item c.in-Ok-Some.after (λ xs. search rules) judged)
