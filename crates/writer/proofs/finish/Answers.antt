-- `writer::finish` meets its contract. Assumes nothing.
use Rattle.std.proofs.Common.{◌-◌, ◌^◌, sym, arith, lt-ltb, length}
use Rattle.state.specs.StateLaws.{trailer_fits}
use Rattle.refusing.specs.TablesLaws.{finish_accepted}
use Rattle.block.specs.Block.{end_items}
use Rattle.items.specs.ItemsLaws.{put_written}
use Rattle.writer.specs.CallsLaws.{next_place}
use Rattle.writer.proofs.finish.Goals as goal

pub returns : goal.returns
returns c =
    let s = c.args.state.now in
    let number = c.in_ok-finish_check.ensures in
    let k = finish_accepted s (length c.args.words.now) (sym number) in
    let items = end_items s.settings s.words in
    let counts = lt-ltb s.words (2 ^ 22 - 1) (omega (arith, trailer_fits _ k.state)) in
    let written = put_written items counts k.fit c.put_end-length.ensures in
    record {
      refusal = number;
      state = rw (← number) c.idle_state.ensures;
      size = rw (← number) (next_place items written);
      buffer = rw (← number) written.words;
    }
