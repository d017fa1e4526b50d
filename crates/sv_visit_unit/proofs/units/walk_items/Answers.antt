use Rattle.std.proofs.Common.{arith}
use Rattle.std.proofs.lemmas.Grind.{common_steps}
use Rattle.sv_visit_unit.proofs.units.walk_items.Goals as goal

pub loop-i-init : goal.loop-i-init
loop-i-init g c = grind (arith, common_steps)

pub offset_bounds-list-i-index : goal.offset_bounds-list-i-index
offset_bounds-list-i-index g c = grind (arith, common_steps)

pub returns-in_err-walk_item : goal.returns-in_err-walk_item
returns-in_err-walk_item g c = grind (arith, common_steps)

pub loop-i-preserved : goal.loop-i-preserved
loop-i-preserved g c = grind (arith, common_steps)

pub returns : goal.returns
returns g c = grind (arith, common_steps)
