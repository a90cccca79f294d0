-- `refusing::close_check` meets its contract, row by row. Assumes nothing.
use Rattle.std.proofs.Common.{ℕ, ◌≡◌, sym, ◌∙◌, Bool, true, false, not, ◌||◌, List, ◌∷◌, ap, ◌*◌, ltb, arith, ltb-false, rules, length}
use Rattle.ground.specs.Tests.{FirstIs, no_row, this_row, later_row}
use Rattle.ground.specs.TestsLaws.{is_first}
use Rattle.std.proofs.lemmas.Bool.{not-false}
use Rattle.rows.specs.Inner.{Lent}
use Rattle.rows.specs.RowsLaws.{lent_enough}
use Rattle.state.specs.declared.State.{State}
use Rattle.state.specs.declared.Phase.TheVariants.{Event}
use Rattle.state.specs.State.{common_ok, phase_ok, state_ok, is_event}
use Rattle.state.specs.StateLaws.{state_settings, is_event_lem}
use Rattle.refusing.specs.Tables.{close_table, before_room}
use Rattle.refusing.specs.TablesLaws.{ranges_asked, turn_missed}
use Rattle.refusing.proofs.close_check.Goals as goal

-- in turn the ranges of the phase are asked; past the first two rows the rest of the table is asked
module _ (s : State) {i g d : Bool} (phase : i ≡ is_event s.phase) (turn : i ≡ true) (good : g ≡ common_ok s) (inside : d ≡ phase_ok Event s) where
  asked : not (state_ok s) ≡ (not g || not d)
  asked = ranges_asked s Event (is_event_lem s.phase (sym phase ∙ turn)) good inside

  turn_off : not (is_event s.phase) ≡ false
  turn_off = ap not (sym phase ∙ turn)

  past_2 : (not g || not d) ≡ false → {rs : List (ℕ × Bool)} {n : ℕ} → FirstIs rs n → FirstIs ((10, not (state_ok s)) ∷ (7, not (is_event s.phase)) ∷ rs) n
  past_2 off rest = later_row _ (asked ∙ off) (later_row _ turn_off rest)

  -- the store holds the rows of a state in range, and the state has sixteen marks: so the rows are looked at
  lent : (not g || not d) ≡ false → length s.posted ≡ 16 → (store : List ℕ) {w : Bool} → w ≡ ltb (length store) (16 * s.settings.nw) → w ≡ false → Lent s.settings s.posted store
  lent off marks store e f = record { settings = state_settings s (not-false _ (asked ∙ off)); marks = omega (arith, marks); rows = ltb-false _ _ (sym e ∙ f) }

pub returns-then-not-is_event : goal.returns-then-not-is_event
unfolding before_room close_table
returns-then-not-is_event c = c.out_of_turn.ensures ∙ sym (is_first (turn_missed (state_ok c.args.s) (ap not (sym c.is_event.ensures ∙ c.if-not-is_event.true))))

pub returns-then-common_ok-during_ok : goal.returns-then-common_ok-during_ok
unfolding before_room close_table
returns-then-common_ok-during_ok c =
    sym (is_first
    (this_row _ _ (asked c.args.s c.is_event.ensures c.if-not-is_event.false c.common_ok.ensures c.during_ok.ensures ∙ c.if-common_ok-during_ok.true)))

pub returns-then-store_short : goal.returns-then-store_short
unfolding before_room close_table
returns-then-store_short c =
    sym (is_first (past_2 c.args.s c.is_event.ensures c.if-not-is_event.false c.common_ok.ensures c.during_ok.ensures c.if-common_ok-during_ok.false
    (this_row _ _ (rw c.store_short.ensures at c.if-store_short.true))))

pub returns-then-not-rows_ok : goal.returns-then-not-rows_ok
unfolding before_room close_table
returns-then-not-rows_ok c =
    sym (is_first (past_2 c.args.s c.is_event.ensures c.if-not-is_event.false c.common_ok.ensures c.during_ok.ensures c.if-common_ok-during_ok.false
    (later_row _ (rw c.store_short.ensures at c.if-store_short.false)
    (this_row _ _ (ap not (sym (rw (lent_enough _ _ _ (lent c.args.s c.is_event.ensures c.if-not-is_event.false c.common_ok.ensures c.during_ok.ensures c.if-common_ok-during_ok.false (search rules) c.args.store.now c.store_short.ensures c.if-store_short.false)) at c.rows_ok.ensures) ∙ c.if-not-rows_ok.true))))))

pub returns : goal.returns
unfolding before_room close_table
returns c =
    sym (is_first (past_2 c.args.s c.is_event.ensures c.if-not-is_event.false c.common_ok.ensures c.during_ok.ensures c.if-common_ok-during_ok.false
    (later_row _ (rw c.store_short.ensures at c.if-store_short.false)
    (later_row _ (ap not (sym (rw (lent_enough _ _ _ (lent c.args.s c.is_event.ensures c.if-not-is_event.false c.common_ok.ensures c.during_ok.ensures c.if-common_ok-during_ok.false (search rules) c.args.store.now c.store_short.ensures c.if-store_short.false)) at c.rows_ok.ensures) ∙ c.if-not-rows_ok.false))
    (no_row)))))
