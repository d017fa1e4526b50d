use Rattle.sv_room.proofs.Enough.{prefixes_have_room}
use Rattle.sv_room.proofs.laws.prefixes_have_room.Goals as goal

pub returns : goal.returns
returns c = prefixes_have_room
