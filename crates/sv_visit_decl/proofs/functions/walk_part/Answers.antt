use Rattle.std.proofs.Common.{arith}
use Rattle.std.proofs.lemmas.Grind.{common_steps}
use Rattle.sv_visit_decl.proofs.functions.walk_part.Goals as goal

pub returns-in-Variable : goal.returns-in-Variable
returns-in-Variable g c = grind (arith, common_steps)

pub returns-in-Function : goal.returns-in-Function
returns-in-Function g c = grind (arith, common_steps)

pub returns-in-Ctor : goal.returns-in-Ctor
returns-in-Ctor g c = grind (arith, common_steps)

pub returns-in-Special : goal.returns-in-Special
returns-in-Special g c = grind (arith, common_steps)

pub returns-in-Modifier : goal.returns-in-Modifier
returns-in-Modifier g c = grind (arith, common_steps)

pub returns-in-Struct : goal.returns-in-Struct
returns-in-Struct g c = grind (arith, common_steps)

pub returns-in-Enum : goal.returns-in-Enum
returns-in-Enum g c = grind (arith, common_steps)

pub returns-in-Event : goal.returns-in-Event
returns-in-Event g c = grind (arith, common_steps)

pub returns-in-Error : goal.returns-in-Error
returns-in-Error g c = grind (arith, common_steps)
