-- `bytecheck::check_bytes` meets its contract.
use Rattle.std.proofs.Common.{ℕ, ◌+◌, ◌*◌, ◌^◌, ap, ◌∙◌, arith, ne_eqb}
use Rattle.reader.specs.Reader.{step_at, end_number}
use Rattle.stretches.specs.WordsLaws.{words_count}
use Rattle.bytecheck.specs.CheckLaws.{run_went, run_refused, run_ended, run_none, out_number, checked}
use Rattle.fields.specs.Bytes.{words_of_bytes}
use Rattle.bytecheck.specs.Check.{check_number}
use Rattle.bytecheck.proofs.check_bytes.Goals as goal

pub returns-then-bytes-ne0 : goal.returns-then-bytes-ne0
unfolding check_number
returns-then-bytes-ne0 c = rw (ne_eqb _ _ c.if-bytes-ne0.true) c.numbered.ensures

-- past the word, and past the items behind it
pub loop-k-smaller : goal.loop-k-smaller
loop-k-smaller c = omega (arith, c.past_items-place.ensures.ahead)

pub loop-k-preserved : goal.loop-k-preserved
loop-k-preserved c =
    let l = c.loop-k in
    let bytes = c.args.bytes.now in
    let past = c.past_items-place.ensures in
    let said = rw c.in-Ok-Some.field-0-is at c.in-Ok-Some.ensures in
    (past.within (omega arith), l.invariant.1 ∙ run_went (words_of_bytes bytes) l.k l.scan (omega (arith, words_count bytes)) _ _ (said.answer ∙ ap (step_at l.scan) c.word_at.ensures) ∙ past.same)

pub returns-in-Err : goal.returns-in-Err
returns-in-Err c =
    let l = c.loop-k in
    let bytes = c.args.bytes.now in
    c.numbered-in-Err.ensures
    ∙ checked bytes c.if-bytes-ne0.false (l.invariant.1 ∙ run_refused (words_of_bytes bytes) l.k l.scan (omega (arith, words_count bytes)) _ _ (c.in-Err.ensures.answer ∙ ap (step_at l.scan) c.word_at.ensures))

pub returns-in-Ok-None : goal.returns-in-Ok-None
returns-in-Ok-None c =
    let l = c.loop-k in
    let bytes = c.args.bytes.now in
    let said = rw c.in-Ok-None.field-0-is at c.in-Ok-None.ensures in
    c.numbered-in-Ok-None.ensures
    ∙ out_number 0 _
    ∙ checked bytes c.if-bytes-ne0.false (l.invariant.1 ∙ run_ended (words_of_bytes bytes) l.k l.scan (omega (arith, words_count bytes)) (said.answer ∙ ap (step_at l.scan) c.word_at.ensures))

pub returns : goal.returns
returns c =
    let l = c.loop-k in
    let bytes = c.args.bytes.now in
    c.numbered-2.ensures
    ∙ ap (λ (n : ℕ). n * 2 ^ 32 + l.scan.place) c.at_end.ensures
    ∙ out_number (end_number l.scan) l.scan.place
    ∙ checked bytes c.if-bytes-ne0.false (l.invariant.1 ∙ run_none (words_of_bytes bytes) l.k l.scan (omega (arith, words_count bytes)))
