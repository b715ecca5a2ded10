use Rattle.settle_openings.proofs.WaveRooms.{an_opening_has_room}
use Rattle.settle_openings.proofs.room_laws.an_opening_has_room.Goals as goal

pub returns : goal.returns
returns c = an_opening_has_room
