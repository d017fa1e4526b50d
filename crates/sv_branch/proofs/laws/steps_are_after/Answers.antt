use Rattle.sv_branch.proofs.Carrying.{steps_after}
use Rattle.sv_branch.proofs.laws.steps_are_after.Goals as goal

pub returns : goal.returns
returns c = steps_after
