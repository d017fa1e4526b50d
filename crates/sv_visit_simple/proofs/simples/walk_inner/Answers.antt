use Rattle.std.proofs.Common.{arith}
use Rattle.std.proofs.lemmas.Grind.{common_steps}
use Rattle.sv_visit_simple.proofs.simples.walk_inner.Goals as goal

pub returns : goal.returns
returns g c = grind (arith, common_steps)
