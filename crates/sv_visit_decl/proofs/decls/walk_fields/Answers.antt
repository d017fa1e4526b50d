use Rattle.std.proofs.Common.{arith}
use Rattle.std.proofs.lemmas.Grind.{common_steps}
use Rattle.sv_visit_decl.proofs.decls.walk_fields.Goals as goal

pub loop-f-init : goal.loop-f-init
loop-f-init g c = grind (arith, common_steps)

pub offset_bounds-list-f-index : goal.offset_bounds-list-f-index
offset_bounds-list-f-index g c = grind (arith, common_steps)

pub returns-in_err-walk_field : goal.returns-in_err-walk_field
returns-in_err-walk_field g c = grind (arith, common_steps)

pub loop-f-preserved : goal.loop-f-preserved
loop-f-preserved g c = grind (arith, common_steps)

pub returns : goal.returns
returns g c = grind (arith, common_steps)
