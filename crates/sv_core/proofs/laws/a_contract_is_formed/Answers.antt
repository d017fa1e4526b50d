use Rattle.sv_core.proofs.FormedProofs.{setter_is_formed}
use Rattle.sv_core.proofs.laws.a_contract_is_formed.Goals as goal

pub returns : goal.returns
returns c = setter_is_formed
