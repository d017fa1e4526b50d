use Rattle.sv_checker.proofs.Chains.{logs_have_room}
use Rattle.sv_checker.proofs.laws.logs_have_room.Goals as goal

pub returns : goal.returns
returns c = logs_have_room
