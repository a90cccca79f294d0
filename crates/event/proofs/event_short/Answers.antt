-- `event::event_short` meets its contract: no event is longer than the longest in its mode.
use Rattle.std.proofs.Common.{◌≡◌, sym, ◌∙◌, Bool, true, false, cond, ◌+◌, ◌*◌, ◌≤◌, arith, ltb-false, le-ltb, le-leb}
use Rattle.limits.specs.Limits.{tail_words}
use Rattle.limits.proofs.LimitsLaws.{most_channel_lem, tail_words_lem, most_event_lem}
use Rattle.settings.specs.RangesLaws.{settings_in_range}
use Rattle.modes.specs.Channel.{mode_most}
use Rattle.modes.specs.BoundLaws.{mode_most_lem}
use Rattle.event.specs.Inner.{event_length}
use Rattle.event.proofs.EventLaws.{event_within, event_most}
use Rattle.event.proofs.event_short.Goals as goal
use Rattle.event.proofs.event_short.Goals.{After-most_words-channel}

-- the longest channel
module _ (c : After-most_words-channel) where
  is : c.most_words-channel.result ≡ mode_most c.args.settings.mode c.args.settings.nw
  is = rw (le-leb _ _ (settings_in_range c.args.settings c.requires.settings).nw.1) at c.most_words-channel.ensures

  small : c.most_words-channel.result ≤ 753
  small = omega (arith, is, most_channel_lem, mode_most_lem c.args.settings.mode c.args.settings.nw (settings_in_range c.args.settings c.requires.settings).nw.1)

tail_small : (asked : Bool) → cond asked tail_words 0 ≤ 19
tail_small true = omega (arith, tail_words_lem)
tail_small false = omega arith

pub returns-then-not-room_short : goal.returns-then-not-room_short
returns-then-not-room_short c =
    let a = c.args in
    let tail = c.tail_length-tail in
    let wide = ltb-false a.room (a.at + (3 + 16 * c.most_words-channel.result + tail.result)) (sym c.room_short.ensures ∙ c.if-not-room_short.true) in
    sym (le-ltb a.room (a.at + (event_length a.settings a.posted.now a.store.now + cond a.asked tail_words 0))
    (omega (arith, wide, is (goal.at.returns-then-not-room_short c).After-most_words-channel, tail.ensures, event_within a.settings a.posted.now a.store.now c.requires.settings c.requires.marks)))

pub returns : goal.returns
returns c = rw (← c.event_length.ensures, ← c.tail_length-tail.ensures) c.room_short-2.ensures

pub overflow_add-event_length : goal.overflow_add-event_length
overflow_add-event_length c =
    let a = c.args in
    record { fits = omega (arith, c.event_length.ensures, c.tail_length-tail.ensures, tail_small a.asked, event_most a.settings a.posted.now a.store.now c.requires.settings c.requires.marks, most_event_lem) }

pub overflow_mul-channel : goal.overflow_mul-channel
overflow_mul-channel c = omega (arith, small (goal.at.overflow_mul-channel c).After-most_words-channel)

pub overflow_add-channel : goal.overflow_add-channel
overflow_add-channel c = omega (arith, small (goal.at.overflow_add-channel c).After-most_words-channel)

pub overflow_add-channel-2 : goal.overflow_add-channel-2
overflow_add-channel-2 c = omega (arith, small (goal.at.overflow_add-channel-2 c).After-most_words-channel, c.tail_length-tail.ensures, tail_small c.args.asked)
