-- `text::put_bytes` meets its contract: the page with the bytes that are left is the page asked for.
use Rattle.std.proofs.Common.{sym, ◌∙◌, rules, arith}
use Rattle.written.specs.PageLaws.{put_turn, put_done}
use Rattle.text.proofs.put_bytes.Goals as goal

pub loop-b-preserved : goal.loop-b-preserved
loop-b-preserved c =
    let l = c.loop-b in
    (search rules, l.invariant.1 ∙ put_turn _ _ c.args.s.now l.b-index (omega arith) c.put_byte-end.ensures)

pub returns : goal.returns
returns c = sym (c.loop-b.invariant.1 ∙ put_done _ _ _ c.loop-b-test.false)
