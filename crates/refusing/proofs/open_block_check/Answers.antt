-- `refusing::open_block_check` meets its contract, row by row. Assumes nothing.
use Rattle.std.proofs.Common.{ℕ, ◌≡◌, sym, ◌∙◌, Bool, true, false, not, ◌||◌, List, ◌∷◌, ap}
use Rattle.ground.specs.Tests.{FirstIs, no_row, this_row, later_row}
use Rattle.ground.specs.TestsLaws.{is_first}
use Rattle.block.specs.BlockLaws.{block_length}
use Rattle.state.specs.declared.State.{State}
use Rattle.state.specs.declared.Phase.TheVariants.{Idle}
use Rattle.state.specs.State.{common_ok, phase_ok, state_ok, is_idle}
use Rattle.state.specs.StateLaws.{is_idle_lem}
use Rattle.refusing.specs.Tables.{open_block_table, open_block_number}
use Rattle.refusing.specs.TablesLaws.{ranges_asked, turn_missed}
use Rattle.refusing.proofs.open_block_check.Goals as goal

-- in turn the ranges of the phase are asked; past the first two rows the rest of the table is asked
module _ (s : State) {i g d : Bool} (phase : i ≡ is_idle s.phase) (turn : i ≡ true) (good : g ≡ common_ok s) (inside : d ≡ phase_ok Idle s) where
  asked : not (state_ok s) ≡ (not g || not d)
  asked = ranges_asked s Idle (is_idle_lem s.phase (sym phase ∙ turn)) good inside

  turn_off : not (is_idle s.phase) ≡ false
  turn_off = ap not (sym phase ∙ turn)

  past_2 : (not g || not d) ≡ false → {rs : List (ℕ × Bool)} {n : ℕ} → FirstIs rs n → FirstIs ((10, not (state_ok s)) ∷ (7, not (is_idle s.phase)) ∷ rs) n
  past_2 off rest = later_row _ (asked ∙ off) (later_row _ turn_off rest)

pub returns-then-not-is_idle : goal.returns-then-not-is_idle
unfolding open_block_number open_block_table
returns-then-not-is_idle c = c.out_of_turn.ensures ∙ sym (is_first (turn_missed (state_ok c.args.s) (ap not (sym c.is_idle.ensures ∙ c.if-not-is_idle.true))))

pub returns-then-common_ok-idle_ok : goal.returns-then-common_ok-idle_ok
unfolding open_block_number open_block_table
returns-then-common_ok-idle_ok c =
    sym (is_first
    (this_row _ _ (asked c.args.s c.is_idle.ensures c.if-not-is_idle.false c.common_ok.ensures c.idle_ok.ensures ∙ c.if-common_ok-idle_ok.true)))

pub returns-then-not-block_ok : goal.returns-then-not-block_ok
unfolding open_block_number open_block_table
returns-then-not-block_ok c =
    sym (is_first (past_2 c.args.s c.is_idle.ensures c.if-not-is_idle.false c.common_ok.ensures c.idle_ok.ensures c.if-common_ok-idle_ok.false
    (this_row _ _ (ap not (sym c.block_ok.ensures ∙ c.if-not-block_ok.true)))))

pub returns-then-room_short : goal.returns-then-room_short
unfolding open_block_number open_block_table
returns-then-room_short c =
    sym (is_first (past_2 c.args.s c.is_idle.ensures c.if-not-is_idle.false c.common_ok.ensures c.idle_ok.ensures c.if-common_ok-idle_ok.false
    (later_row _ (ap not (sym c.block_ok.ensures ∙ c.if-not-block_ok.false))
    (this_row _ _ (rw block_length (rw (c.room_short.ensures, c.head_words.ensures) at c.if-room_short.true))))))

pub returns : goal.returns
unfolding open_block_number open_block_table
returns c =
    sym (is_first (past_2 c.args.s c.is_idle.ensures c.if-not-is_idle.false c.common_ok.ensures c.idle_ok.ensures c.if-common_ok-idle_ok.false
    (later_row _ (ap not (sym c.block_ok.ensures ∙ c.if-not-block_ok.false))
    (later_row _ (rw block_length (rw (c.room_short.ensures, c.head_words.ensures) at c.if-room_short.false))
    (no_row)))))
