use Rattle.std.proofs.Common.{arith}
use Rattle.std.proofs.lemmas.Grind.{common_steps}
use Rattle.sv_visit_decl.proofs.decls.walk_params.Goals as goal

pub loop-p-init : goal.loop-p-init
loop-p-init g c = grind (arith, common_steps)

pub offset_bounds-list-p-index : goal.offset_bounds-list-p-index
offset_bounds-list-p-index g c = grind (arith, common_steps)

pub returns-in_err-walk_param : goal.returns-in_err-walk_param
returns-in_err-walk_param g c = grind (arith, common_steps)

pub loop-p-preserved : goal.loop-p-preserved
loop-p-preserved g c = grind (arith, common_steps)

pub returns : goal.returns
returns g c = grind (arith, common_steps)
