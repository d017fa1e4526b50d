use Rattle.std.proofs.Common.{arith, rules}
use Rattle.std.proofs.lemmas.Grind.{common_steps}
use Rattle.sv_forms.proofs.units.FormsUnitJudge.leave_unit.Goals as goal

pub returns-in-Text : goal.returns-in-Text
returns-in-Text c = first_of (grind (arith, common_steps), search rules)

pub returns-in-Constant : goal.returns-in-Constant
returns-in-Constant c = first_of (grind (arith, common_steps), search rules)

pub returns-in-Contract : goal.returns-in-Contract
returns-in-Contract c = first_of (grind (arith, common_steps), search rules)

pub returns-in-Base : goal.returns-in-Base
returns-in-Base c = first_of (grind (arith, common_steps), search rules)
