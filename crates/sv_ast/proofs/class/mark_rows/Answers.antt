use Rattle.std.proofs.Common.{refl}
use Rattle.sv_ast.specs.Terminals.{marks}
use Rattle.sv_ast.proofs.class.mark_rows.Goals as goal

pub returns : goal.returns
unfolding marks
returns c = refl
