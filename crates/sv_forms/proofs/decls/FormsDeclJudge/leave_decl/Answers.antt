use Rattle.std.proofs.Common.{arith, rules}
use Rattle.std.proofs.lemmas.Grind.{common_steps}
use Rattle.sv_forms.proofs.decls.FormsDeclJudge.leave_decl.Goals as goal

pub returns-in-Struct : goal.returns-in-Struct
returns-in-Struct c = first_of (grind (arith, common_steps), search rules)

pub returns-in-Field : goal.returns-in-Field
returns-in-Field c = first_of (grind (arith, common_steps), search rules)

pub returns-in-Enum : goal.returns-in-Enum
returns-in-Enum c = first_of (grind (arith, common_steps), search rules)

pub returns-in-Event : goal.returns-in-Event
returns-in-Event c = first_of (grind (arith, common_steps), search rules)

pub returns-in-EventParam : goal.returns-in-EventParam
returns-in-EventParam c = first_of (grind (arith, common_steps), search rules)

pub returns-in-Error : goal.returns-in-Error
returns-in-Error c = first_of (grind (arith, common_steps), search rules)

pub returns-in-ErrorParam : goal.returns-in-ErrorParam
returns-in-ErrorParam c = first_of (grind (arith, common_steps), search rules)

pub returns-in-Variable : goal.returns-in-Variable
returns-in-Variable c = first_of (grind (arith, common_steps), search rules)

pub returns-in-Word : goal.returns-in-Word
returns-in-Word c = first_of (grind (arith, common_steps), search rules)

pub returns-in-Over : goal.returns-in-Over
returns-in-Over c = first_of (grind (arith, common_steps), search rules)

pub returns-in-Param : goal.returns-in-Param
returns-in-Param c = first_of (grind (arith, common_steps), search rules)
