-- `numbers::load::marks_from` meets its contract. The invariant: what is left to write are the bits from the channel on. Assumes nothing.
use Rattle.std.proofs.Common.{◌/◌, ◌%◌, ◌^◌, ◌-◌, ◌≡◌, eqb, length}
use lib.Seq.{sets}
use Rattle.numbers.specs.Numbers.{table, marks_from}
use Rattle.numbers.proofs.load.marks_from.Given as goal

abbrev pub invariant-loop-channel : goal.invariant-loop-channel
invariant-loop-channel l =
    (length l.marks ≡ 16) × ((l.bit ≡ 2 ^ l.channel) × (marks_from l.number ≡ sets l.marks l.channel (table (λ j. eqb (l.number / 2 ^ j % 2) 1) (16 - l.channel) l.channel)))
