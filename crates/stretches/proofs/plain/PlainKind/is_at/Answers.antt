-- `stretches::plain::Plain::is_at` meets its contract.
use Rattle.std.proofs.Common.{arith}
use Rattle.stretches.specs.BitsLaws.{turned_plain}
use Rattle.stretches.proofs.plain.PlainKind.is_at.Goals as goal

pub returns : goal.returns
returns c =
    let a = c.args in
    rw (c.take.ensures, c.take-2.ensures, c.turned_at-word.ensures)
    (turned_plain a.bytes.now a.k (λ i. omega (arith, c.type_inv.bytes i)) (omega arith))
