-- `hostcount::fadc250_latch` meets its contract. Assumes nothing.
use Rattle.hostcount.specs.FaceLaws.{latch_face}
use Rattle.hostcount.proofs.fadc250_latch.Goals as goal

pub returns : goal.returns
returns c =
    latch_face _ c.state_or_none-loaded.ensures c.put_counts.ensures c.latch-answer.ensures
