-- `blocklines::stop` meets its contract: the fillers' line, then a refusal or none.
use Rattle.refusals.specs.RefusalLaws.{number_some}
use Rattle.blocklines.specs.BlockLaws.{stopped_broken}
use Rattle.blocklines.proofs.stop.Goals as goal

pub returns-in-Err : goal.returns-in-Err
returns-in-Err c =
    let a = c.args in
    rw c.in-Err.is (stopped_broken a.fillers _ a.place (number_some c.in-Err.refusal) c.put_fill-filled.ensures (rw c.number.ensures at c.put_refused.ensures))
