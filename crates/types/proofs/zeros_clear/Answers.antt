-- `types::zeros_clear` meets its contract.
use Rattle.types.proofs.zeros_clear.Goals as goal

pub returns : goal.returns
returns c = c.row_of-row.ensures.zeros c.args.word
