-- `channel::put_channel` meets its contract: what cannot be searched, has no pulse or has no room is not written.
use Rattle.std.proofs.Common.{◌≤◌, ◌≡◌, sym, ◌∙◌, true, List, arith, ltb-true, ltb-false, length}
use Rattle.ground.specs.WritingLaws.{not_asked, nothing_new}
use Rattle.finder.specs.Find.{searchable}
use Rattle.finder.specs.FindLaws.{searched}
use Rattle.items.specs.declared.Item.{Item}
use Rattle.items.specs.ItemsLaws.{put_wrote, put_nothing}
use Rattle.modes.specs.Channel.{channel_items}
use Rattle.modes.specs.Inner.{channel_length}
use Rattle.modes.specs.InnerLaws.{channel_quiet, length_channel}
use Rattle.channel.proofs.put_channel.Goals as goal
use Rattle.channel.proofs.put_channel.Goals.{Else-first-eq0}

pub returns-then-not-can_search : goal.returns-then-not-can_search
returns-then-not-can_search c = not_asked (sym c.can_search.ensures ∙ c.if-not-can_search.true)

pub returns-then-first-eq0 : goal.returns-then-first-eq0
returns-then-first-eq0 c =
    let a = c.args in
    rw (channel_quiet a.common a.threshold a.channel a.row.now (sym c.tc_from-first.ensures ∙ c.if-first-eq0.true)) (nothing_new _ _ _)

-- where the room is asked for
module _ (c : Else-first-eq0) where
  asked : searchable (length c.args.row.now) c.args.common.nsa c.args.common.limit ≡ true
  asked = sym c.can_search.ensures ∙ c.if-not-can_search.false

  some : 1 ≤ c.tc_from-first.result
  some = omega (arith, c.if-first-eq0.false)

  abbrev items : List Item
  items = channel_items c.args.common c.args.threshold c.args.channel c.args.row.now

  size : length items ≡ channel_length c.args.common c.args.threshold c.args.row.now
  size = length_channel c.args.common c.args.threshold c.args.channel c.args.row.now (searched _ _ _ asked).some

pub channel_short-requires : goal.channel_short-requires
channel_short-requires c = asked c

pub returns-then-channel_short : goal.returns-then-channel_short
returns-then-channel_short c =
    let e = (goal.at.returns-then-channel_short c).Else-first-eq0 in
    put_nothing (items e) (rw (size e) (ltb-true _ _ (sym c.channel_short.ensures ∙ c.if-channel_short.true)))

pub put_found-requires : goal.put_found-requires
put_found-requires c =
    let e = (goal.at.put_found-requires c).Else-first-eq0 in
    record {
      limit_value = (asked e, c.tc_from-first.ensures, some e);
      row_in_bounds = rw (size e) (ltb-false _ _ (sym c.channel_short.ensures ∙ c.if-channel_short.false));
    }

pub returns : goal.returns
returns c =
    let e = (goal.at.returns c).Else-first-eq0 in
    put_wrote (items e) (asked e) (rw (size e) (ltb-false _ _ (sym c.channel_short.ensures ∙ c.if-channel_short.false))) c.put_found.ensures
