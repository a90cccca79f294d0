-- `host::fadc250_open_block` meets its contract. Assumes nothing.
use Rattle.host.specs.FaceLaws.{open_block_face}
use Rattle.host.proofs.fadc250_open_block.Goals as goal

pub returns : goal.returns
returns c = open_block_face _ _ _ _ c.state_or_none-loaded.ensures c.open_block-answer.ensures c.put_back.ensures
