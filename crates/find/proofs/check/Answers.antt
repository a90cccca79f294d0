-- `find::check` meets its contract, row by row. Assumes nothing.
use Rattle.std.proofs.Common.{◌≡◌, sym, false, not, lt-ltb, le-ltb, eq-eqb, ne_eqb, ap}
use Rattle.ground.specs.Tests.{no_row, this_row, later_row}
use Rattle.ground.specs.TestsLaws.{is_first}
use Rattle.settings.specs.Ranges.{settings_ok}
use Rattle.find.specs.Call.{find_table, find_number}
use Rattle.find.proofs.check.Goals as goal
use Rattle.find.proofs.check.Goals.{Else-not-in_range}

pub returns-then-not-in_range : goal.returns-then-not-in_range
unfolding find_number find_table
returns-then-not-in_range c = sym (is_first (this_row _ _ (rw c.in_range.ensures at (ap not c.if-not-in_range.true))))

first_off : (c : Else-not-in_range) → not (settings_ok c.args.settings) ≡ false
first_off c = rw c.in_range.ensures at (ap not c.if-not-in_range.false)

pub returns-then-channel-gt15 : goal.returns-then-channel-gt15
unfolding find_number find_table
returns-then-channel-gt15 c = sym (is_first (later_row _ (first_off (goal.at.returns-then-channel-gt15 c).Else-not-in_range) (this_row _ _ (lt-ltb _ _ c.if-channel-gt15.true))))

pub returns-then-window-settings : goal.returns-then-window-settings
unfolding find_number find_table
returns-then-window-settings c =
    sym (is_first (later_row _ (first_off (goal.at.returns-then-window-settings c).Else-not-in_range) (later_row _ (le-ltb _ _ c.if-channel-gt15.false) (this_row _ _ (rw (ne_eqb _ _ c.if-window-settings.true))))))

pub returns-then-not-samples_ok : goal.returns-then-not-samples_ok
unfolding find_number find_table
returns-then-not-samples_ok c =
    sym (is_first (later_row _ (first_off (goal.at.returns-then-not-samples_ok c).Else-not-in_range) (later_row _ (le-ltb _ _ c.if-channel-gt15.false) (later_row _ (rw (eq-eqb _ _ c.if-window-settings.false)) (this_row _ _ (rw c.samples_ok.ensures at (ap not c.if-not-samples_ok.true)))))))

pub returns : goal.returns
unfolding find_number find_table
returns c =
    sym (is_first (later_row _ (first_off (goal.at.returns c).Else-not-in_range) (later_row _ (le-ltb _ _ c.if-channel-gt15.false) (later_row _ (rw (eq-eqb _ _ c.if-window-settings.false)) (later_row _ (rw c.samples_ok.ensures at (ap not c.if-not-samples_ok.false)) no_row)))))
