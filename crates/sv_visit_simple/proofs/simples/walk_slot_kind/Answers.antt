use Rattle.std.proofs.Common.{arith}
use Rattle.std.proofs.lemmas.Grind.{common_steps}
use Rattle.sv_visit_simple.proofs.simples.walk_slot_kind.Goals as goal

pub returns-in-None : goal.returns-in-None
returns-in-None g c = grind (arith, common_steps)

pub returns-in-Some-Decl : goal.returns-in-Some-Decl
returns-in-Some-Decl g c = grind (arith, common_steps)

pub returns-in-Some-Name : goal.returns-in-Some-Name
returns-in-Some-Name g c = grind (arith, common_steps)
