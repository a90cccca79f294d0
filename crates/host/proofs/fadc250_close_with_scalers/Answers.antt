-- `host::fadc250_close_with_scalers` meets its contract. Assumes nothing.
use Rattle.std.proofs.Common.{true}
use Rattle.host.specs.FaceLaws.{close_face}
use Rattle.host.proofs.fadc250_close_with_scalers.Goals as goal

pub returns : goal.returns
returns c = close_face _ _ _ true c.state_or_none-loaded.ensures c.close-answer.ensures c.put_back.ensures
