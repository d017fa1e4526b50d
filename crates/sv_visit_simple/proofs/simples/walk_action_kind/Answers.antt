use Rattle.std.proofs.Common.{arith}
use Rattle.std.proofs.lemmas.Grind.{common_steps}
use Rattle.sv_visit_simple.proofs.simples.walk_action_kind.Goals as goal

pub returns-in-Delete : goal.returns-in-Delete
returns-in-Delete g c = grind (arith, common_steps)

pub returns-in-Expr : goal.returns-in-Expr
returns-in-Expr g c = grind (arith, common_steps)
