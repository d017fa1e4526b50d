use Rattle.std.proofs.Common.{arith}
use Rattle.std.proofs.lemmas.Grind.{common_steps}
use Rattle.sv_visit_decl.proofs.decls.walk_enum.Goals as goal

pub returns-in_err-before : goal.returns-in_err-before
returns-in_err-before g c = grind (arith, common_steps)

pub returns : goal.returns
returns g c = grind (arith, common_steps)
