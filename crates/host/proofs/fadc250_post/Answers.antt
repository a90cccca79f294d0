-- `host::fadc250_post` meets its contract. Assumes nothing.
use Rattle.std.proofs.Common.{refl}
use Rattle.refusals.specs.RefusalLaws.{number_some}
use Rattle.host.specs.FaceLaws.{mark_room, post_face}
use Rattle.host.proofs.fadc250_post.Goals as goal

pub place_mark-requires : goal.place_mark-requires
place_mark-requires c = mark_room _ _ _ _ c.state_or_none-loaded.ensures c.in-Ok.ensures refl

pub returns-in-Ok : goal.returns-in-Ok
returns-in-Ok c = post_face _ _ _ _ c.state_or_none-loaded.ensures c.in-Ok.ensures refl c.place_mark.ensures

pub returns-in-Err : goal.returns-in-Err
returns-in-Err c = post_face _ _ _ _ c.state_or_none-loaded.ensures c.in-Err.ensures c.number.ensures (rw (c.number.ensures, number_some c.in-Err.refusal))
