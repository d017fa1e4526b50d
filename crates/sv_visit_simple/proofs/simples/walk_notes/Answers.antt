use Rattle.std.proofs.Common.{arith}
use Rattle.std.proofs.lemmas.Grind.{common_steps}
use Rattle.sv_visit_simple.proofs.simples.walk_notes.Goals as goal

pub loop-n-init : goal.loop-n-init
loop-n-init g c = grind (arith, common_steps)

pub offset_bounds-list-n-index : goal.offset_bounds-list-n-index
offset_bounds-list-n-index g c = grind (arith, common_steps)

pub returns-in_err-walk_note : goal.returns-in_err-walk_note
returns-in_err-walk_note g c = grind (arith, common_steps)

pub loop-n-preserved : goal.loop-n-preserved
loop-n-preserved g c = grind (arith, common_steps)

pub returns : goal.returns
returns g c = grind (arith, common_steps)
