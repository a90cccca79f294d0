-- `pulse::measure::time_word` meets its contract: its record, built.
use Rattle.std.proofs.Common.{arith}
use Rattle.items.specs.Items.{word_of}
use Rattle.limits.proofs.LimitsLaws.{most_samples_lem}
use Rattle.pulse.specs.Pulse.{time_item}
use Rattle.pulse.proofs.measure.time_word.Goals as goal
use Rattle.pulse.proofs.measure.time_word.Goals.{then-high, else-high}

pub returns : goal.returns
unfolding word_of time_item
returns c =
    elim c.if-high.branch [
      | then-high w ↦ rw w.if-high.true (rw w.coarse-is at c.build.ensures)
      | else-high w ↦ rw w.if-high.false (rw w.coarse-is at c.build.ensures)
    ]

pub overflow_cast-time : goal.overflow_cast-time
overflow_cast-time c =
    elim c.if-high.branch [
      | then-high w ↦ rw w.coarse-is (omega (arith, most_samples_lem, c.requires))
      | else-high w ↦ rw w.coarse-is (omega (arith, most_samples_lem, c.requires))
    ]
