use Rattle.sv_branch_kept.proofs.Keeping.{steps_keep}
use Rattle.sv_branch_kept.proofs.laws.steps_keep.Goals as goal

pub returns : goal.returns
returns c = steps_keep
