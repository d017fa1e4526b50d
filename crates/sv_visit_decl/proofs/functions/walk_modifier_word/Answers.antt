use Rattle.std.proofs.Common.{arith}
use Rattle.std.proofs.lemmas.Grind.{common_steps}
use Rattle.sv_visit_decl.proofs.functions.walk_modifier_word.Goals as goal

pub returns-in-Virtual : goal.returns-in-Virtual
returns-in-Virtual g c = grind (arith, common_steps)

pub returns-in-Over : goal.returns-in-Over
returns-in-Over g c = grind (arith, common_steps)
