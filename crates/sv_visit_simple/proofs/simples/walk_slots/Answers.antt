use Rattle.std.proofs.Common.{arith}
use Rattle.std.proofs.lemmas.Grind.{common_steps}
use Rattle.sv_visit_simple.proofs.simples.walk_slots.Goals as goal

pub loop-s-init : goal.loop-s-init
loop-s-init g c = grind (arith, common_steps)

pub offset_bounds-list-s-index : goal.offset_bounds-list-s-index
offset_bounds-list-s-index g c = grind (arith, common_steps)

pub returns-in_err-walk_slot : goal.returns-in_err-walk_slot
returns-in_err-walk_slot g c = grind (arith, common_steps)

pub loop-s-preserved : goal.loop-s-preserved
loop-s-preserved g c = grind (arith, common_steps)

pub returns : goal.returns
returns g c = grind (arith, common_steps)
