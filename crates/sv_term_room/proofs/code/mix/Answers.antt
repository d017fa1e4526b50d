use Rattle.std.proofs.Common.{refl}
use Rattle.sv_term_room.specs.NodeCodes.{mixed}
use Rattle.sv_term_room.proofs.code.mix.Goals as goal

pub returns : goal.returns
unfolding mixed
returns c = refl
