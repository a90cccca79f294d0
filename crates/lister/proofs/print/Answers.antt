-- the buffer has room for every text
use Rattle.std.proofs.Common.{arith}
use Rattle.listing.specs.MostLaws.{always_text}
use Rattle.listing.specs.RoomLaws.{within, within_take}
use Rattle.lister.proofs.print.Goals as goal

pub unwrap-length-requires : goal.unwrap-length-requires
unwrap-length-requires g c = always_text c.args.bytes.now (omega arith) c.list.ensures

pub slice_bounds-text-end : goal.slice_bounds-text-end
slice_bounds-text-end g c = within c.unwrap-length.ensures c.list.ensures

pub slice_bounds-write_all-end : goal.slice_bounds-write_all-end
slice_bounds-write_all-end g c = within_take c.unwrap-length.ensures c.list.ensures
