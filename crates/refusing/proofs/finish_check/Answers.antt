-- `refusing::finish_check` meets its contract, row by row. Assumes nothing.
use Rattle.std.proofs.Common.{ℕ, ◌≡◌, sym, ◌∙◌, Bool, true, false, not, ◌||◌, List, ◌∷◌, ap, eq-eqb, ne_eqb}
use Rattle.ground.specs.Tests.{FirstIs, no_row, this_row, later_row}
use Rattle.ground.specs.TestsLaws.{is_first}
use Rattle.state.specs.declared.State.{State}
use Rattle.state.specs.declared.Phase.TheVariants.{Block}
use Rattle.state.specs.State.{common_ok, phase_ok, state_ok, is_block}
use Rattle.state.specs.StateLaws.{is_block_lem}
use Rattle.refusing.specs.Tables.{finish_table, finish_number}
use Rattle.refusing.specs.TablesLaws.{ranges_asked, turn_missed}
use Rattle.refusing.proofs.finish_check.Goals as goal

-- in turn the ranges of the phase are asked; past the first two rows the rest of the table is asked
module _ (s : State) {i g d : Bool} (phase : i ≡ is_block s.phase) (turn : i ≡ true) (good : g ≡ common_ok s) (inside : d ≡ phase_ok Block s) where
  asked : not (state_ok s) ≡ (not g || not d)
  asked = ranges_asked s Block (is_block_lem s.phase (sym phase ∙ turn)) good inside

  turn_off : not (is_block s.phase) ≡ false
  turn_off = ap not (sym phase ∙ turn)

  past_2 : (not g || not d) ≡ false → {t : Bool} → t ≡ false → {rs : List (ℕ × Bool)} {n : ℕ} → FirstIs rs n → FirstIs ((10, not (state_ok s)) ∷ (7, not (is_block s.phase) || t) ∷ rs) n
  past_2 off off_too rest = later_row _ (asked ∙ off) (later_row _ (rw (turn_off, off_too)) rest)

pub returns-then-not-is_block : goal.returns-then-not-is_block
unfolding finish_number finish_table
returns-then-not-is_block c = c.out_of_turn.ensures ∙ sym (is_first (turn_missed (state_ok c.args.s) (rw (sym c.is_block.ensures ∙ c.if-not-is_block.true))))

pub returns-then-common_ok-between_ok : goal.returns-then-common_ok-between_ok
unfolding finish_number finish_table
returns-then-common_ok-between_ok c =
    sym (is_first
    (this_row _ _ (asked c.args.s c.is_block.ensures c.if-not-is_block.false c.common_ok.ensures c.between_ok.ensures ∙ c.if-common_ok-between_ok.true)))

pub returns-then-s : goal.returns-then-s
unfolding finish_number finish_table
returns-then-s c =
    sym (is_first
    (later_row _ (asked c.args.s c.is_block.ensures c.if-not-is_block.false c.common_ok.ensures c.between_ok.ensures ∙ c.if-common_ok-between_ok.false)
    (this_row _ _ (rw (turn_off c.args.s c.is_block.ensures c.if-not-is_block.false c.common_ok.ensures c.between_ok.ensures, ne_eqb _ _ c.if-s.true)))))

pub returns-then-end_short : goal.returns-then-end_short
unfolding finish_number finish_table
returns-then-end_short c =
    sym (is_first (past_2 c.args.s c.is_block.ensures c.if-not-is_block.false c.common_ok.ensures c.between_ok.ensures c.if-common_ok-between_ok.false (rw (eq-eqb _ _ c.if-s.false))
    (this_row _ _ (rw c.end_short.ensures at c.if-end_short.true))))

pub returns : goal.returns
unfolding finish_number finish_table
returns c =
    sym (is_first (past_2 c.args.s c.is_block.ensures c.if-not-is_block.false c.common_ok.ensures c.between_ok.ensures c.if-common_ok-between_ok.false (rw (eq-eqb _ _ c.if-s.false))
    (later_row _ (rw c.end_short.ensures at c.if-end_short.false)
    (no_row))))
