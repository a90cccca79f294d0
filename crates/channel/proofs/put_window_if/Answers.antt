-- `channel::put_window_if` meets its contract: the header and the pairs of the whole window, or nothing.
use Rattle.std.proofs.Common.{refl, ◌∷◌, rules, length}
use Rattle.ground.specs.WritingLaws.{written_nil}
use Rattle.limits.proofs.LimitsLaws.{most_samples_lem}
use Rattle.pairs.specs.Pairs.{pair_items}
use Rattle.items.specs.declared.Item.TheVariants as I
use Rattle.items.specs.ItemsLaws.{put_written}
use Rattle.modes.specs.Channel.{window_items}
use Rattle.channel.proofs.put_window_if.Goals as goal

pub returns-then-on : goal.returns-then-on
unfolding window_items
returns-then-on c =
    let a = c.args in
    let on = c.if-on.true in
    let x = I.Window (record { channel = a.channel; width = length a.row.now }) in
    rw on (put_written (x ∷ pair_items a.row.now) refl (rw on at c.requires.row_in_bounds) c.put_run.ensures)

pub returns-else-on : goal.returns-else-on
returns-else-on c = rw c.if-on.false (written_nil _ _)

pub overflow_cast-width : goal.overflow_cast-width
overflow_cast-width c = search (rules, most_samples_lem)
