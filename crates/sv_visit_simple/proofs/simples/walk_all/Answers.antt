use Rattle.std.proofs.Common.{arith}
use Rattle.std.proofs.lemmas.Grind.{common_steps}
use Rattle.sv_visit_simple.proofs.simples.walk_all.Goals as goal

pub loop-e-init : goal.loop-e-init
loop-e-init g c = grind (arith, common_steps)

pub offset_bounds-list-e-index : goal.offset_bounds-list-e-index
offset_bounds-list-e-index g c = grind (arith, common_steps)

pub returns-in_err-walk_inner : goal.returns-in_err-walk_inner
returns-in_err-walk_inner g c = grind (arith, common_steps)

pub loop-e-preserved : goal.loop-e-preserved
loop-e-preserved g c = grind (arith, common_steps)

pub returns : goal.returns
returns g c = grind (arith, common_steps)
