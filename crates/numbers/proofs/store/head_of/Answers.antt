-- `numbers::store::head_of` meets its contract. Assumes nothing.
use Rattle.numbers.specs.StoreLaws.{head_made}
use Rattle.numbers.proofs.store.head_of.Goals as goal

pub returns : goal.returns
returns c =
    rw (c.from.ensures, c.from-2.ensures, c.from-3.ensures, c.from-4.ensures) (head_made c.args.state c.phase_number.ensures c.marks_number.ensures)
