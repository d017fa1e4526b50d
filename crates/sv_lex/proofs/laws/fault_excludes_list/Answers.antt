use Rattle.sv_lex.proofs.TokenLaws.{fault_excludes_list}
use Rattle.sv_lex.proofs.laws.fault_excludes_list.Goals as goal

pub returns : goal.returns
returns c = fault_excludes_list
