use Rattle.sv_lex.proofs.TokenLaws.{tokens_are_slices}
use Rattle.sv_lex.proofs.laws.tokens_are_slices.Goals as goal

pub returns : goal.returns
returns c = tokens_are_slices
