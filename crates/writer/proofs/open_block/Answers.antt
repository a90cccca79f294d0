-- `writer::open_block` meets its contract. Assumes nothing.
use Rattle.std.proofs.Common.{sym, ap, length}
use Rattle.state.specs.State.{with_block}
use Rattle.state.specs.StateLaws.{state_settings}
use Rattle.refusing.specs.TablesLaws.{open_block_accepted}
use Rattle.block.specs.Block.{block_items}
use Rattle.items.specs.ItemsLaws.{put_written}
use Rattle.writer.specs.CallsLaws.{next_place}
use Rattle.writer.proofs.open_block.Goals as goal

pub returns : goal.returns
unfolding with_block
returns c =
    let a = c.args in
    let s = a.state.now in
    let number = c.in_ok-open_block_check.ensures in
    let k = open_block_accepted s (length a.words.now) a.number a.events (sym number) in
    let items = block_items s.settings a.number a.events in
    let written = put_written items (state_settings _ k.state) k.fit c.put_block-next.ensures in
    record {
      refusal = number;
      state = rw (← number) (ap (with_block s a.number a.events) (next_place items written));
      buffer = rw (← number) written.words;
    }
