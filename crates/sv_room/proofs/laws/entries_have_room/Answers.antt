use Rattle.sv_room.proofs.Leaving.{entries_have_room}
use Rattle.sv_room.proofs.laws.entries_have_room.Goals as goal

pub returns : goal.returns
returns c = entries_have_room
