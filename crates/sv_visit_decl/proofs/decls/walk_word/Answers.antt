use Rattle.std.proofs.Common.{arith}
use Rattle.std.proofs.lemmas.Grind.{common_steps}
use Rattle.sv_visit_decl.proofs.decls.walk_word.Goals as goal

pub returns-in-Word : goal.returns-in-Word
returns-in-Word g c = grind (arith, common_steps)

pub returns-in-Over : goal.returns-in-Over
returns-in-Over g c = grind (arith, common_steps)
