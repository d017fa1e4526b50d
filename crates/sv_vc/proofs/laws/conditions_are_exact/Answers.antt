use Rattle.sv_vc.proofs.Exactness.{conditions_are_exact}
use Rattle.sv_vc.proofs.laws.conditions_are_exact.Goals as goal

pub returns : goal.returns
returns c = conditions_are_exact
