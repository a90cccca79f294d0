-- `listing::list_unless` meets its contract: every text has room; or it is counted on no page, then written where it fits.
use Rattle.std.proofs.Common.{arith}
use Rattle.listing.specs.MostLaws.{unless_le}
use Rattle.listing.specs.RoomLaws.{room_sure, no_room, room}
use Rattle.listing.proofs.list_unless.Goals as goal

pub returns-then-bytes-text : goal.returns-then-bytes-text
returns-then-bytes-text c =
    room_sure _ _ _ _ (omega (arith, c.well_formed, unless_le c.args.wrong c.args.bytes.now (omega (arith, c.well_formed)))) (omega (arith, c.well_formed)) c.put_listing.ensures

pub returns-then-text-needed : goal.returns-then-text-needed
returns-then-text-needed c = no_room _ _ _ _ c.put_listing-needed.ensures (omega arith)

pub returns : goal.returns
returns c =
    room _ _ _ _ c.put_listing-needed.ensures _ _ (omega arith) (omega (arith, c.well_formed)) c.put_listing-2.ensures
