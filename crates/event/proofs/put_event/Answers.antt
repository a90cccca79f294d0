-- `event::put_event` meets its contract: what is not lent or has no room is not written.
use Rattle.std.proofs.Common.{ℕ, ◌+◌, ◌-◌, ◌^◌, ◌≤◌, ◌≡◌, sym, ap, ap₂, ◌∙◌, Bool, true, cond, ◌&&◌, List, ◌++◌, arith, rules, ltb-true, ltb-false, leb-true, leb, ltb, length, length-append}
use Rattle.ground.specs.TestsLaws.{and_left, and_right}
use Rattle.limits.specs.Limits.{tail_words}
use Rattle.items.specs.declared.Item.{Item}
use Rattle.items.specs.ItemsLaws.{first_room, then_room, then_written, put_wrote, put_nothing}
use Rattle.rows.specs.Rows.{lent_ok}
use Rattle.tail.specs.Tail.{tail_items}
use Rattle.tail.specs.TailLaws.{length_tail}
use Rattle.event.specs.Event.{event_items}
use Rattle.rows.specs.Inner.{Lent}
use Rattle.event.specs.Inner.{event_length}
use Rattle.rows.specs.RowsLaws.{lent_says}
use Rattle.event.proofs.EventLaws.{length_event}
use Rattle.event.proofs.put_event.Goals as goal
use Rattle.event.proofs.put_event.Goals.{Else-event_short, Else-not-lent-time}

-- where the second test is made
module _ (c : Else-not-lent-time) where
  asked : lent_ok c.args.settings c.args.posted.now c.args.store.now && leb c.args.time (2 ^ 48 - 1) ≡ true
  asked = sym (ap (λ (b : Bool). b && leb c.args.time (2 ^ 48 - 1)) c.lent.ensures) ∙ c.if-not-lent-time.false

  enough : Lent c.args.settings c.args.posted.now c.args.store.now
  enough = lent_says _ _ _ (and_left _ (leb c.args.time (2 ^ 48 - 1)) asked)

  abbrev event : List Item
  event = event_items c.args.settings c.args.number c.args.time c.args.posted.now c.args.store.now

  abbrev tail : List Item
  tail = tail_items c.args.asked c.args.latched

  size : length (event ++ tail) ≡ event_length c.args.settings c.args.posted.now c.args.store.now + cond c.args.asked tail_words 0
  size =
      let counts : length c.args.latched ≡ 18 = search rules in
      length-append event tail
      ∙ ap₂ (λ (m n : ℕ). m + n) (length_event c.args.settings c.args.number c.args.time c.args.posted.now c.args.store.now enough.settings) (length_tail c.args.asked c.args.latched counts)

pub event_short-requires : goal.event_short-requires
event_short-requires c = enough c

pub returns-then-event_short : goal.returns-then-event_short
returns-then-event_short c =
    let e = (goal.at.returns-then-event_short c).Else-not-lent-time in
    put_nothing (event e ++ tail e) (rw (size e) (ltb-true _ _ (sym c.event_short.ensures ∙ c.if-event_short.true)))

room : (c : Else-event_short) (n : ℕ) (items : List Item) → length items ≡ n → c.event_short.result ≡ ltb (length c.args.words.now) (c.args.at + n)
    → c.args.at + length items ≤ length c.args.words.now
room c n items size short = rw size (ltb-false _ _ (sym short ∙ c.if-event_short.false))

pub put_lent-next-requires : goal.put_lent-next-requires
put_lent-next-requires c =
    let a = c.args in
    let e = (goal.at.put_lent-next-requires c).Else-not-lent-time in
    let all = room (goal.at.put_lent-next-requires c).Else-event_short _ (event e ++ tail e) (size e) c.event_short.ensures in
    record {
      lent = (enough e, leb-true _ _ (and_right (lent_ok a.settings a.posted.now a.store.now) _ (asked e)));
      store_in_bounds = first_room a.at (length a.words.now) (event e) (tail e) all;
    }

pub put_asked-requires : goal.put_asked-requires
put_asked-requires c =
    let a = c.args in
    let e = (goal.at.put_asked-requires c).Else-not-lent-time in
    let all = room (goal.at.put_asked-requires c).Else-event_short _ (event e ++ tail e) (size e) c.event_short.ensures in
    then_room a.words.now a.at (event e) (tail e) _ _ all c.put_lent-next.ensures

pub returns : goal.returns
returns c =
    let a = c.args in
    let e = (goal.at.returns c).Else-not-lent-time in
    let all = room (goal.at.returns c).Else-event_short _ (event e ++ tail e) (size e) c.event_short.ensures in
    put_wrote (event e ++ tail e) (asked e) all
    (then_written a.words.now a.at (event e) _ _ (tail e) _ _ (omega (arith, all)) c.put_lent-next.ensures c.put_asked.ensures)
