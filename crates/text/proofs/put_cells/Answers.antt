-- `text::put_cells` meets its contract: the page with the cells that are left is the page asked for.
use Rattle.std.proofs.Common.{sym, ◌∙◌, rules, arith}
use Rattle.written.specs.LineLaws.{cells_turn, cells_done}
use Rattle.text.proofs.put_cells.Goals as goal

pub loop-n-preserved : goal.loop-n-preserved
loop-n-preserved c =
    let l = c.loop-n in
    (search rules, l.invariant.1 ∙ cells_turn _ _ c.args.cells.now l.marks l.n-index (omega arith) c.put_cell-end.ensures)

pub returns : goal.returns
returns c = sym (c.loop-n.invariant.1 ∙ cells_done _ _ c.loop-n.marks _ c.loop-n-test.false)
