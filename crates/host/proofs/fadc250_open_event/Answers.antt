-- `host::fadc250_open_event` meets its contract. Assumes nothing.
use Rattle.std.proofs.Common.{refl}
use Rattle.refusals.specs.RefusalLaws.{number_some}
use Rattle.host.specs.FaceLaws.{event_room, open_event_face}
use Rattle.host.proofs.fadc250_open_event.Goals as goal

pub place_event-requires : goal.place_event-requires
place_event-requires c = event_room _ _ _ c.state_or_none-loaded.ensures c.in-Ok.ensures refl

pub returns-in-Ok : goal.returns-in-Ok
returns-in-Ok c = open_event_face _ _ _ c.state_or_none-loaded.ensures c.in-Ok.ensures refl c.place_event.ensures

pub returns-in-Err : goal.returns-in-Err
returns-in-Err c = open_event_face _ _ _ c.state_or_none-loaded.ensures c.in-Err.ensures c.number.ensures (rw (c.number.ensures, number_some c.in-Err.refusal))
