use Rattle.std.proofs.Common.{arith}
use Rattle.std.proofs.lemmas.Grind.{common_steps}
use Rattle.sv_visit_unit.proofs.units.walk_bases.Goals as goal

pub loop-b-init : goal.loop-b-init
loop-b-init g c = grind (arith, common_steps)

pub offset_bounds-list-b-index : goal.offset_bounds-list-b-index
offset_bounds-list-b-index g c = grind (arith, common_steps)

pub returns-in_err-walk_base : goal.returns-in_err-walk_base
returns-in_err-walk_base g c = grind (arith, common_steps)

pub loop-b-preserved : goal.loop-b-preserved
loop-b-preserved g c = grind (arith, common_steps)

pub returns : goal.returns
returns g c = grind (arith, common_steps)
