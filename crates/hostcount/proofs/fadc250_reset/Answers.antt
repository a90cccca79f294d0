-- `hostcount::fadc250_reset` meets its contract. Assumes nothing.
use Rattle.hostcount.specs.FaceLaws.{reset_face}
use Rattle.hostcount.proofs.fadc250_reset.Goals as goal

pub returns : goal.returns
returns c =
    reset_face _ c.state_or_none-loaded.ensures c.put_counts.ensures c.reset-answer.ensures
