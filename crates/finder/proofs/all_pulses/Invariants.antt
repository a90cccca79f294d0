-- `finder::all_pulses` meets its contract. The invariant: the pulses that stand and those to come are the answer. Assumes nothing.
use Rattle.std.proofs.Common.{◌≡◌}
use Rattle.finder.specs.Find.{pulses_from, packed}
use Rattle.finder.specs.FindLaws.{Rest}
use Rattle.finder.proofs.all_pulses.Given as goal

abbrev pub invariant-loop-count : goal.invariant-loop-count
invariant-loop-count l =
    packed (pulses_from l.window l.threshold l.nsb l.nsa l.limit 0) ≡ Rest l.window l.threshold l.nsb l.nsa l.limit l.pulses l.count l.s
