use Rattle.sv_branch.proofs.Asking.{questions_agree}
use Rattle.sv_branch.proofs.laws.questions_agree.Goals as goal

pub returns : goal.returns
returns c = questions_agree
