use Rattle.sv_lex.proofs.TokenLaws.{fault_is_one}
use Rattle.sv_lex.proofs.laws.fault_is_one.Goals as goal

pub returns : goal.returns
returns c = fault_is_one
