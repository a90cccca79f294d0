-- `counting::count_check` meets its contract, row by row. Assumes nothing.
use Rattle.std.proofs.Common.{sym, eq-eqb, ne_eqb, ap, not}
use Rattle.ground.specs.Tests.{no_row, this_row, later_row}
use Rattle.ground.specs.TestsLaws.{is_first}
use Rattle.counting.specs.Counting.{count_table, count_number}
use Rattle.counting.proofs.count_check.Goals as goal

pub returns-then-not-state_ok : goal.returns-then-not-state_ok
unfolding count_number count_table
returns-then-not-state_ok c = sym (is_first (this_row _ _ (rw c.state_ok.ensures at (ap not c.if-not-state_ok.true))))

pub returns-then-not-samples_ok : goal.returns-then-not-samples_ok
unfolding count_number count_table
returns-then-not-samples_ok c =
    sym (is_first (later_row _ (rw c.state_ok.ensures at (ap not c.if-not-state_ok.false)) (this_row _ _ (rw c.samples_ok.ensures at (ap not c.if-not-samples_ok.true)))))

pub returns-then-samples-ne0 : goal.returns-then-samples-ne0
unfolding count_number count_table
returns-then-samples-ne0 c =
    sym (is_first
    (later_row _ (rw c.state_ok.ensures at (ap not c.if-not-state_ok.false))
    (later_row _ (rw c.samples_ok.ensures at (ap not c.if-not-samples_ok.false)) (this_row _ _ (rw (ne_eqb _ _ c.if-samples-ne0.true))))))

pub returns : goal.returns
unfolding count_number count_table
returns c =
    sym (is_first
    (later_row _ (rw c.state_ok.ensures at (ap not c.if-not-state_ok.false))
    (later_row _ (rw c.samples_ok.ensures at (ap not c.if-not-samples_ok.false)) (later_row _ (rw (eq-eqb _ _ c.if-samples-ne0.false)) no_row))))
