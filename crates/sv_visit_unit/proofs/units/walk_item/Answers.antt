use Rattle.std.proofs.Common.{arith}
use Rattle.std.proofs.lemmas.Grind.{common_steps}
use Rattle.sv_visit_unit.proofs.units.walk_item.Goals as goal

pub returns-in-Pragma : goal.returns-in-Pragma
returns-in-Pragma g c = grind (arith, common_steps)

pub returns-in-Contract : goal.returns-in-Contract
returns-in-Contract g c = grind (arith, common_steps)

pub returns-in-Struct : goal.returns-in-Struct
returns-in-Struct g c = grind (arith, common_steps)

pub returns-in-Enum : goal.returns-in-Enum
returns-in-Enum g c = grind (arith, common_steps)

pub returns-in-Event : goal.returns-in-Event
returns-in-Event g c = grind (arith, common_steps)

pub returns-in-Error : goal.returns-in-Error
returns-in-Error g c = grind (arith, common_steps)

pub returns-in-FileConst : goal.returns-in-FileConst
returns-in-FileConst g c = grind (arith, common_steps)
