use Rattle.std.proofs.Common.{arith, rules}
use Rattle.std.proofs.lemmas.Grind.{common_steps}
use Rattle.sv_forms.proofs.functions.FormsFunctionJudge.leave_function.Goals as goal

pub returns-in_err-leave_head-in-Head : goal.returns-in_err-leave_head-in-Head
returns-in_err-leave_head-in-Head c = first_of (grind (arith, common_steps), search rules)

pub returns-in-Function : goal.returns-in-Function
returns-in-Function c = first_of (grind (arith, common_steps), search rules)

pub returns-in-Constructor : goal.returns-in-Constructor
returns-in-Constructor c = first_of (grind (arith, common_steps), search rules)

pub returns-in-Special : goal.returns-in-Special
returns-in-Special c = first_of (grind (arith, common_steps), search rules)

pub returns-in-Modifier : goal.returns-in-Modifier
returns-in-Modifier c = first_of (grind (arith, common_steps), search rules)

pub returns-in_ok-leave_head-in-Head : goal.returns-in_ok-leave_head-in-Head
returns-in_ok-leave_head-in-Head c = first_of (grind (arith, common_steps), search rules)
