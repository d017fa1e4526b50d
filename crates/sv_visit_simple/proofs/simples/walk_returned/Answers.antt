use Rattle.std.proofs.Common.{arith}
use Rattle.std.proofs.lemmas.Grind.{common_steps}
use Rattle.sv_visit_simple.proofs.simples.walk_returned.Goals as goal

pub returns-in-None : goal.returns-in-None
returns-in-None g c = grind (arith, common_steps)

pub returns-in-Some-One : goal.returns-in-Some-One
returns-in-Some-One g c = grind (arith, common_steps)

pub returns-in-Some-Many : goal.returns-in-Some-Many
returns-in-Some-Many g c = grind (arith, common_steps)
