use Rattle.std.proofs.Common.{refl}
use Rattle.sv_force.specs.Codes.{mixed}
use Rattle.sv_force.proofs.code.mix.Goals as goal

pub returns : goal.returns
unfolding mixed
returns c = refl
