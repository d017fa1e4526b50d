use Rattle.sv_lin.proofs.Saturation.{complete_saturated}
use Rattle.sv_lin.proofs.laws.complete_are_saturated.Goals as goal

pub returns : goal.returns
returns c = complete_saturated
