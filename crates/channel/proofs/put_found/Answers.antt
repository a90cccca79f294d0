-- `channel::put_found` meets its contract: the window where the mode writes it, then the pulses.
use Rattle.std.proofs.Common.{◌+◌, ◌≤◌, ◌≡◌, cond, List, [], ◌++◌, arith, length}
use Rattle.finder.specs.Find.{pulses_from}
use Rattle.finder.specs.FindLaws.{searched, can_search}
use Rattle.items.specs.declared.Item.{Item}
use Rattle.items.specs.ItemsLaws.{first_room, then_room, then_written}
use Rattle.modes.specs.Channel.{window_items, pulses_items, channel_items}
use Rattle.modes.specs.InnerLaws.{search_less, channel_busy}
use Rattle.channel.proofs.put_found.Goals as goal
use Rattle.channel.proofs.put_found.Goals.{After-limit_for-limit}

-- what is known before the first word
module _ (c : After-limit_for-limit) where
  window : List Item
  window = cond c.parts_of-parts.result.window (window_items c.args.channel c.args.row.now) []

  pulses : List Item
  pulses = pulses_items c.parts_of-parts.result c.args.channel c.args.row.now 0 (pulses_from c.args.row.now c.args.threshold c.args.common.nsb c.args.common.nsa c.limit_for-limit.result 0)

  are : channel_items c.args.common c.args.threshold c.args.channel c.args.row.now ≡ window ++ pulses
  unfolding window pulses
  are =
      channel_busy c.args.common c.args.threshold c.args.channel c.args.row.now c.parts_of-parts.result _
      (rw c.requires.limit_value.1 at c.requires.limit_value.2) c.parts_of-parts.ensures c.limit_for-limit.ensures

  room : c.args.at + length (window ++ pulses) ≤ length c.args.words.now
  room = rw are at c.requires.row_in_bounds

pub put_window_if-window-requires : goal.put_window_if-window-requires
unfolding window
put_window_if-window-requires c =
    let f = (goal.at.put_window_if-window-requires c).After-limit_for-limit in
    record { row_len_bound = (searched _ _ _ c.requires.limit_value.0).short; row_in_bounds = first_room _ _ (window f) _ (room f) }

pub put_pulses-requires : goal.put_pulses-requires
unfolding window pulses
put_pulses-requires c =
    let f = (goal.at.put_pulses-requires c).After-limit_for-limit in
    record {
      limit_value =
          (can_search _ _ _ (search_less c.parts_of-parts.result _ _ _ _ (searched _ _ _ c.requires.limit_value.0) c.limit_for-limit.ensures), c.requires.limit_value.1);
      limit_in_bounds = then_room _ _ (window f) (pulses f) _ _ (room f) c.put_window_if-window.ensures;
    }

pub returns : goal.returns
unfolding window pulses
returns c =
    let f = (goal.at.returns c).After-limit_for-limit in
    rw (are f) (then_written _ _ (window f) _ _ (pulses f) _ _ (omega (arith, room f)) c.put_window_if-window.ensures c.put_pulses.ensures)
