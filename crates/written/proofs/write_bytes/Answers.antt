-- `written::write_bytes` meets its contract: the page with the bytes that are left is the page asked for.
use Rattle.std.proofs.Common.{refl, sym, ◌∙◌, arith, rules}
use Rattle.written.specs.PageLaws.{put_turn, put_done}
use Rattle.written.proofs.write_bytes.Goals as goal

pub loop-b-init : goal.loop-b-init
loop-b-init c = (refl, omega arith, refl)

pub loop-b-preserved : goal.loop-b-preserved
loop-b-preserved c =
    let l = c.loop-b in
    (search rules, search rules, l.invariant.2 ∙ put_turn _ _ c.args.s.now l.b-index (omega arith) c.write_byte-end.ensures.0)

pub returns : goal.returns
returns c = (sym (c.loop-b.invariant.2 ∙ put_done _ _ _ c.loop-b-test.false), omega arith)
