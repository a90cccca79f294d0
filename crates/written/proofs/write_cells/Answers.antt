-- `written::write_cells` meets its contract: the page with the cells that are left is the page asked for.
use Rattle.std.proofs.Common.{refl, sym, ◌∙◌, arith, rules}
use Rattle.written.specs.LineLaws.{cells_turn, cells_done}
use Rattle.written.proofs.write_cells.Goals as goal

pub loop-n-preserved : goal.loop-n-preserved
loop-n-preserved c =
    let l = c.loop-n in
    let cells = c.args.cells.now in
    (search rules, search rules, l.invariant.2 ∙ cells_turn _ _ cells l.marks l.n-index (omega arith) c.write_cell-end.ensures.0)

pub returns : goal.returns
returns c = (sym (c.loop-n.invariant.2 ∙ cells_done _ _ c.loop-n.marks _ c.loop-n-test.false), omega arith)

pub loop-n-init : goal.loop-n-init
loop-n-init c = (refl, omega arith, refl)
