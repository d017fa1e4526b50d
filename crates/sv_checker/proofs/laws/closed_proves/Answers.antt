use Rattle.sv_checker.proofs.Chains.{closed_proves}
use Rattle.sv_checker.proofs.laws.closed_proves.Goals as goal

pub returns : goal.returns
returns c = closed_proves
