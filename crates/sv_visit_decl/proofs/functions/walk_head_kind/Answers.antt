use Rattle.std.proofs.Common.{arith}
use Rattle.std.proofs.lemmas.Grind.{common_steps}
use Rattle.sv_visit_decl.proofs.functions.walk_head_kind.Goals as goal

pub returns-in-Public : goal.returns-in-Public
returns-in-Public g c = grind (arith, common_steps)

pub returns-in-Private : goal.returns-in-Private
returns-in-Private g c = grind (arith, common_steps)

pub returns-in-Internal : goal.returns-in-Internal
returns-in-Internal g c = grind (arith, common_steps)

pub returns-in-External : goal.returns-in-External
returns-in-External g c = grind (arith, common_steps)

pub returns-in-Pure : goal.returns-in-Pure
returns-in-Pure g c = grind (arith, common_steps)

pub returns-in-View : goal.returns-in-View
returns-in-View g c = grind (arith, common_steps)

pub returns-in-Payable : goal.returns-in-Payable
returns-in-Payable g c = grind (arith, common_steps)

pub returns-in-Virtual : goal.returns-in-Virtual
returns-in-Virtual g c = grind (arith, common_steps)

pub returns-in-Over : goal.returns-in-Over
returns-in-Over g c = grind (arith, common_steps)

pub returns-in-Use : goal.returns-in-Use
returns-in-Use g c = grind (arith, common_steps)
