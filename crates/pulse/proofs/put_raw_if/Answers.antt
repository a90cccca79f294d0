-- `pulse::put_raw_if` meets its contract: the header and the pairs of the part that is the data set, or nothing.
use Rattle.std.proofs.Common.{refl, ◌∷◌, rules}
use Rattle.ground.specs.WritingLaws.{written_nil}
use Rattle.limits.proofs.LimitsLaws.{most_samples_lem}
use Rattle.pairs.specs.Pairs.{pair_items}
use Rattle.items.specs.declared.Item.TheVariants as I
use Rattle.items.specs.ItemsLaws.{put_written}
use Rattle.pulse.specs.Pulse.{set_of, raw_items}
use Rattle.pulse.specs.PulseLaws.{part_set}
use Rattle.pulse.proofs.put_raw_if.Goals as goal

pub returns-then-on : goal.returns-then-on
unfolding raw_items
returns-then-on c =
    let a = c.args in
    let on = c.if-on.true in
    let x = I.Raw (record { channel = a.channel; pulse = a.i; tc = a.pulse.tc }) in
    rw on
    (put_written (x ∷ pair_items (set_of a.row.now a.pulse)) refl (rw on at c.requires.pulse_in_bounds)
    (rw (part_set a.row.now a.pulse c.requires.fitting.from) at c.put_run.ensures))

pub returns-else-on : goal.returns-else-on
returns-else-on c = rw c.if-on.false (written_nil _ _)

pub overflow_cast-tc : goal.overflow_cast-tc
overflow_cast-tc c = search (rules, most_samples_lem)
