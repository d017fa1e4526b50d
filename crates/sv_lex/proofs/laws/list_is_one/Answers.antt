use Rattle.sv_lex.proofs.TokenLaws.{list_is_one}
use Rattle.sv_lex.proofs.laws.list_is_one.Goals as goal

pub returns : goal.returns
returns c = list_is_one
