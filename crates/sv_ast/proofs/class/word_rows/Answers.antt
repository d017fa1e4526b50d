use Rattle.std.proofs.Common.{refl}
use Rattle.sv_ast.specs.Terminals.{words}
use Rattle.sv_ast.proofs.class.word_rows.Goals as goal

pub returns : goal.returns
unfolding words
returns c = refl
