-- `refusing::post_check` meets its contract, row by row. Assumes nothing.
use Rattle.std.proofs.Common.{ℕ, ◌≡◌, sym, ◌∙◌, Bool, true, false, not, ◌||◌, List, ◌∷◌, ap, lt-ltb, le-ltb, eq-eqb, ne_eqb}
use Rattle.ground.specs.Tests.{FirstIs, no_row, this_row, later_row}
use Rattle.ground.specs.TestsLaws.{is_first}
use Rattle.state.specs.declared.State.{State}
use Rattle.state.specs.declared.Phase.TheVariants.{Event}
use Rattle.state.specs.State.{common_ok, phase_ok, state_ok, is_event}
use Rattle.state.specs.StateLaws.{is_event_lem}
use Rattle.refusing.specs.Tables.{post_table, post_number}
use Rattle.refusing.specs.TablesLaws.{ranges_asked, turn_missed}
use Rattle.refusing.proofs.post_check.Goals as goal

-- in turn the ranges of the phase are asked; past the first two rows the rest of the table is asked
module _ (s : State) {i g d : Bool} (phase : i ≡ is_event s.phase) (turn : i ≡ true) (good : g ≡ common_ok s) (inside : d ≡ phase_ok Event s) where
  asked : not (state_ok s) ≡ (not g || not d)
  asked = ranges_asked s Event (is_event_lem s.phase (sym phase ∙ turn)) good inside

  turn_off : not (is_event s.phase) ≡ false
  turn_off = ap not (sym phase ∙ turn)

  past_2 : (not g || not d) ≡ false → {rs : List (ℕ × Bool)} {n : ℕ} → FirstIs rs n → FirstIs ((10, not (state_ok s)) ∷ (7, not (is_event s.phase)) ∷ rs) n
  past_2 off rest = later_row _ (asked ∙ off) (later_row _ turn_off rest)

pub returns-then-not-is_event : goal.returns-then-not-is_event
unfolding post_number post_table
returns-then-not-is_event c = c.out_of_turn.ensures ∙ sym (is_first (turn_missed (state_ok c.args.s) (ap not (sym c.is_event.ensures ∙ c.if-not-is_event.true))))

pub returns-then-common_ok-during_ok : goal.returns-then-common_ok-during_ok
unfolding post_number post_table
returns-then-common_ok-during_ok c =
    sym (is_first
    (this_row _ _ (asked c.args.s c.is_event.ensures c.if-not-is_event.false c.common_ok.ensures c.during_ok.ensures ∙ c.if-common_ok-during_ok.true)))

pub returns-then-channel-gt15 : goal.returns-then-channel-gt15
unfolding post_number post_table
returns-then-channel-gt15 c =
    sym (is_first (past_2 c.args.s c.is_event.ensures c.if-not-is_event.false c.common_ok.ensures c.during_ok.ensures c.if-common_ok-during_ok.false
    (this_row _ _ (lt-ltb _ _ c.if-channel-gt15.true))))

pub returns-then-window-s : goal.returns-then-window-s
unfolding post_number post_table
returns-then-window-s c =
    sym (is_first (past_2 c.args.s c.is_event.ensures c.if-not-is_event.false c.common_ok.ensures c.during_ok.ensures c.if-common_ok-during_ok.false
    (later_row _ (le-ltb _ _ c.if-channel-gt15.false)
    (this_row _ _ (rw (ne_eqb _ _ c.if-window-s.true))))))

pub returns-then-s-channel : goal.returns-then-s-channel
unfolding post_number post_table
returns-then-s-channel c =
    sym (is_first (past_2 c.args.s c.is_event.ensures c.if-not-is_event.false c.common_ok.ensures c.during_ok.ensures c.if-common_ok-during_ok.false
    (later_row _ (le-ltb _ _ c.if-channel-gt15.false)
    (later_row _ (rw (eq-eqb _ _ c.if-window-s.false))
    (this_row _ _ (c.if-s-channel.true))))))

pub returns-then-store_short : goal.returns-then-store_short
unfolding post_number post_table
returns-then-store_short c =
    sym (is_first (past_2 c.args.s c.is_event.ensures c.if-not-is_event.false c.common_ok.ensures c.during_ok.ensures c.if-common_ok-during_ok.false
    (later_row _ (le-ltb _ _ c.if-channel-gt15.false)
    (later_row _ (rw (eq-eqb _ _ c.if-window-s.false))
    (later_row _ (c.if-s-channel.false)
    (this_row _ _ (rw c.store_short.ensures at c.if-store_short.true)))))))

pub returns-then-not-samples_ok : goal.returns-then-not-samples_ok
unfolding post_number post_table
returns-then-not-samples_ok c =
    sym (is_first (past_2 c.args.s c.is_event.ensures c.if-not-is_event.false c.common_ok.ensures c.during_ok.ensures c.if-common_ok-during_ok.false
    (later_row _ (le-ltb _ _ c.if-channel-gt15.false)
    (later_row _ (rw (eq-eqb _ _ c.if-window-s.false))
    (later_row _ (c.if-s-channel.false)
    (later_row _ (rw c.store_short.ensures at c.if-store_short.false)
    (this_row _ _ (ap not (sym c.samples_ok.ensures ∙ c.if-not-samples_ok.true)))))))))

pub returns : goal.returns
unfolding post_number post_table
returns c =
    sym (is_first (past_2 c.args.s c.is_event.ensures c.if-not-is_event.false c.common_ok.ensures c.during_ok.ensures c.if-common_ok-during_ok.false
    (later_row _ (le-ltb _ _ c.if-channel-gt15.false)
    (later_row _ (rw (eq-eqb _ _ c.if-window-s.false))
    (later_row _ (c.if-s-channel.false)
    (later_row _ (rw c.store_short.ensures at c.if-store_short.false)
    (later_row _ (ap not (sym c.samples_ok.ensures ∙ c.if-not-samples_ok.false))
    (no_row))))))))
