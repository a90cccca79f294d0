-- `host::fadc250_close` meets its contract. Assumes nothing.
use Rattle.std.proofs.Common.{false}
use Rattle.host.specs.FaceLaws.{close_face}
use Rattle.host.proofs.fadc250_close.Goals as goal

pub returns : goal.returns
returns c = close_face _ _ _ false c.state_or_none-loaded.ensures c.close-answer.ensures c.put_back.ensures
