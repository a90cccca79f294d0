-- `stretches::measured::Measure::is_at` meets its contract.
use Rattle.std.proofs.Common.{arith}
use Rattle.stretches.specs.BitsLaws.{turned_measure}
use Rattle.stretches.proofs.measured.MeasureKind.is_at.Goals as goal

pub returns : goal.returns
returns c =
    let a = c.args in
    rw (c.put-first.ensures, c.take.ensures, c.take-2.ensures, c.take-3.ensures, c.turned_at-word.ensures)
    (turned_measure a.bytes.now a.k (λ i. omega (arith, c.type_inv.bytes i)) (omega arith))
