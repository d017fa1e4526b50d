use Rattle.std.proofs.Common.{arith}
use Rattle.std.proofs.lemmas.Grind.{common_steps}
use Rattle.sv_visit_decl.proofs.functions.walk_heads.Goals as goal

pub loop-h-init : goal.loop-h-init
loop-h-init g c = grind (arith, common_steps)

pub offset_bounds-list-h-index : goal.offset_bounds-list-h-index
offset_bounds-list-h-index g c = grind (arith, common_steps)

pub returns-in_err-walk_head : goal.returns-in_err-walk_head
returns-in_err-walk_head g c = grind (arith, common_steps)

pub loop-h-preserved : goal.loop-h-preserved
loop-h-preserved g c = grind (arith, common_steps)

pub returns : goal.returns
returns g c = grind (arith, common_steps)
