use Rattle.sv_room.proofs.Leaving.{states_are_within}
use Rattle.sv_room.proofs.laws.states_are_within.Goals as goal

pub returns : goal.returns
returns c = states_are_within
