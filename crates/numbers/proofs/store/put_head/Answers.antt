-- `numbers::store::put_head` meets its contract. Assumes nothing.
use Rattle.numbers.specs.StoreLaws.{head_stored_lem}
use Rattle.numbers.proofs.store.put_head.Goals as goal

pub returns : goal.returns
returns c =
    head_stored_lem c.args.numbers.now c.args.state c.head_of-head.ensures c.put.ensures
