-- `blocklines::list_block` meets its contract: what is left of the block, put where the text stands, gives the block.
use Rattle.std.proofs.Common.{refl, sym, ap, ◌∙◌, arith}
use Rattle.scan.specs.declared.Scan.{Scan}
use Rattle.scan.specs.After.{start_of}
use Rattle.reader.specs.Reader.{judge_at, just, read_from}
use Rattle.reader.specs.RunLaws.{refused_some}
use Rattle.fields.specs.Bytes.{words_of_bytes}
use Rattle.entries.specs.AheadLaws.{tail_is}
use Rattle.glance.specs.QuickLaws.{known_took, known_other}
use Rattle.blocklines.specs.BlockLaws.{read_end, behind_within, behind_taken, behind_fillers, left_all, left_is, left_took, left_known, left_last, left_none}
use Rattle.blocklines.proofs.list_block.Goals as goal

pub loop-rest-init : goal.loop-rest-init
loop-rest-init c =
    let a = c.args in
    (omega arith, omega arith, refl, left_is (left_all a.text.now a.from (read_from start_of (words_of_bytes a.bytes.now)) (omega arith)) (ap (λ (s : Scan). read_from s (words_of_bytes a.bytes.now)) (sym c.start-scan.ensures)))

pub loop-rest-preserved-in-Some : goal.loop-rest-preserved-in-Some
loop-rest-preserved-in-Some c =
    let l = c.loop-rest in
    let i = l.invariant in
    let four = c.in-len4-up.len_at_least in
    let b = tail_is l.rest.now 4 in (
      behind_within _ _ _ four b i.0,
      behind_fillers _ _ _ four b i.0 i.1 (omega arith),
      c.put_known.auto.text ∙ i.2,
      left_known l.rest.now _ l.scan four b i.3 c.of_bytes-word.ensures (known_took _ _ _ _ c.put_known.ensures c.in-Some.is _) (behind_taken _ _ _ four b i.0),
    )

pub loop-rest-preserved : goal.loop-rest-preserved
loop-rest-preserved c =
    let l = c.loop-rest in
    let i = l.invariant in
    let four = c.in-len4-up.len_at_least in
    let b = tail_is l.rest.now 4 in
    let filler = c.filler_in-fillers.ensures in
    let said = rw c.in-Ok-Some.field-0-is at c.in-Ok-Some.ensures in
    let same = known_other _ _ _ _ c.put_known.ensures c.in_default-put_known.is in (
      behind_within _ _ _ four b i.0,
      behind_fillers _ _ _ four b i.0 i.1 (omega (arith, filler.1)),
      c.list_item-at.auto.text ∙ c.put_known.auto.text ∙ i.2,
      left_took l.rest.now _ l.scan four b i.3 (said.answer ∙ ap (judge_at l.scan) c.of_bytes-word.ensures) (rw same at c.list_item-at.ensures) filler.0 (behind_taken _ _ _ four b i.0),
    )

pub returns-in-Ok-None : goal.returns-in-Ok-None
returns-in-Ok-None c =
    let l = c.loop-rest in
    let said = rw c.in-Ok-None.field-0-is at c.in-Ok-None.ensures in
    let same = known_other _ _ _ _ c.put_known.ensures c.in_default-put_known.is in
    left_last l.rest.now _ l.scan c.in-len4-up.len_at_least (tail_is l.rest.now 4) l.invariant.3 (said.answer ∙ ap (judge_at l.scan) c.of_bytes-word.ensures) refl (rw same at c.stop.ensures)

pub returns-in-Err : goal.returns-in-Err
returns-in-Err c =
    let l = c.loop-rest in
    let judged = c.in-Err.ensures.answer ∙ ap (judge_at l.scan) c.of_bytes-word.ensures in
    let same = known_other _ _ _ _ c.put_known.ensures c.in_default-put_known.is in
    left_last l.rest.now _ l.scan c.in-len4-up.len_at_least (tail_is l.rest.now 4) l.invariant.3 judged (ap just (refused_some _ _ judged)) (rw same at c.stop-in-Err.ensures)

pub returns : goal.returns
returns c =
    let l = c.loop-rest in
    left_none (left_is l.invariant.3 (read_end l.rest.now l.scan c.in_default.len_below c.at_end.ensures)) c.stop-2.ensures
