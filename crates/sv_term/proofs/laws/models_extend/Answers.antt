use Rattle.sv_term.proofs.ModelMaking.{models_extend}
use Rattle.sv_term.proofs.laws.models_extend.Goals as goal

pub returns : goal.returns
returns c = models_extend
