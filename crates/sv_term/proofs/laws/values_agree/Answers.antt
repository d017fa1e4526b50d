use Rattle.sv_term.proofs.ModelMaking.{values_agree}
use Rattle.sv_term.proofs.laws.values_agree.Goals as goal

pub returns : goal.returns
returns c = values_agree
