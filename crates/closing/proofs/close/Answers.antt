-- `closing::close` meets its contract: what is asked first, then the event's words, all or none. Assumes nothing.
use Rattle.std.proofs.Common.{◌≡◌, sym, ap, ◌∙◌, arith, rules, eqb, false, length}
use Rattle.std.specs.declared.result.Result.TheVariants.{Err}
use Rattle.refusals.specs.RefusalLaws.{number_some}
use Rattle.state.specs.State.{with_closed}
use Rattle.refusing.specs.Tables.{closing_items, before_room}
use Rattle.refusing.specs.RoomLaws.{refused_before}
use Rattle.writer.specs.CallsLaws.{next_place}
use Rattle.closing.specs.ClosingLaws.{in_event, no_room, had_room}
use Rattle.closing.proofs.close.Goals as goal
use Rattle.closing.proofs.close.Goals.{After-put_event-next}

-- where nothing but the room is left to be asked
module _ (c : After-put_event-next) where
  asked : before_room c.args.state.now c.args.store.now ≡ 0
  asked = sym c.in_ok-close_check.ensures

  marks : length c.args.state.now.posted ≡ 16
  marks = search rules

pub returns-in_err-close_check : goal.returns-in_err-close_check
returns-in_err-close_check c =
    let a = c.args in
    let before = c.in_err-close_check.ensures in
    let no : eqb (before_room a.state.now a.store.now) 0 ≡ false = rw (← before) (number_some c.in_err-close_check.field-0.0) in
    let number = before ∙ sym (refused_before a.state.now a.asked a.store.now (length a.words.now) no) in
    let e : c.from_residual.result ≡ Err c.in_err-close_check.field-0.0 = search rules in
    rw e (record { refusal = number; state = rw (← number, number_some c.in_err-close_check.field-0.0); buffer = rw (← number, number_some c.in_err-close_check.field-0.0) })

pub overflow_add-state : goal.overflow_add-state
overflow_add-state c =
    let e = in_event c.args.state.now c.args.asked c.args.store.now (asked (goal.at.overflow_add-state c).After-put_event-next) in
    omega (arith, e.closed, e.inside.events.1)

pub returns-then-next-at : goal.returns-then-next-at
returns-then-next-at c =
    let a = c.args in
    let told = no_room a.state.now a.asked a.store.now (asked (goal.at.returns-then-next-at c).After-put_event-next) (marks (goal.at.returns-then-next-at c).After-put_event-next) c.put_event-next.ensures c.if-next-at.true in
    record { refusal = sym told.0; state = rw told.0; buffer = rw told.0 told.1 }

pub returns : goal.returns
unfolding with_closed
returns c =
    let a = c.args in
    let told = had_room a.state.now a.asked a.store.now (asked (goal.at.returns c).After-put_event-next) (marks (goal.at.returns c).After-put_event-next) c.put_event-next.ensures c.if-next-at.false in
    record {
      refusal = sym told.0;
      state = rw told.0 (ap (with_closed a.state.now) (next_place (closing_items a.state.now a.asked a.store.now) told.1));
      buffer = rw told.0 told.1.words;
    }
