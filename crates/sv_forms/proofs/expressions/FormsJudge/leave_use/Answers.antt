use Rattle.std.proofs.Common.{arith, rules}
use Rattle.std.proofs.lemmas.Grind.{common_steps}
use Rattle.sv_forms.proofs.expressions.FormsJudge.leave_use.Goals as goal

pub returns-in-Type : goal.returns-in-Type
returns-in-Type c = first_of (grind (arith, common_steps), search rules)

pub returns-in-Plain : goal.returns-in-Plain
returns-in-Plain c = first_of (grind (arith, common_steps), search rules)

pub returns-in-Args : goal.returns-in-Args
returns-in-Args c = first_of (grind (arith, common_steps), search rules)
