-- `hostcount::fadc250_count` meets its contract. Assumes nothing.
use Rattle.hostcount.specs.FaceLaws.{count_face}
use Rattle.hostcount.proofs.fadc250_count.Goals as goal

pub returns : goal.returns
returns c =
    count_face _ c.state_or_none-loaded.ensures c.put_counts.ensures _ c.count-answer.ensures
