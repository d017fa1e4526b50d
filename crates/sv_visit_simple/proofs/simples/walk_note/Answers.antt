use Rattle.std.proofs.Common.{arith}
use Rattle.std.proofs.lemmas.Grind.{common_steps}
use Rattle.sv_visit_simple.proofs.simples.walk_note.Goals as goal

pub returns-in_err-before : goal.returns-in_err-before
returns-in_err-before g c = grind (arith, common_steps)

pub returns-in_err-walk_inner : goal.returns-in_err-walk_inner
returns-in_err-walk_inner g c = grind (arith, common_steps)

pub returns : goal.returns
returns g c = grind (arith, common_steps)
