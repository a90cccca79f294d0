-- `types::slot_differs` meets its contract.
use Rattle.types.proofs.slot_differs.Goals as goal

pub returns : goal.returns
returns c = rw (c.row_of-row.ensures.slot, c.take.ensures)
