use Rattle.std.proofs.Common.{arith, rules}
use Rattle.std.proofs.lemmas.Grind.{common_steps}
use Rattle.sv_forms.proofs.functions.is_no_base.Goals as goal

pub returns-in_err-is_base-in-Use : goal.returns-in_err-is_base-in-Use
returns-in_err-is_base-in-Use c = first_of (grind (arith, common_steps), search rules)

pub returns-in_ok-is_base-in-Use : goal.returns-in_ok-is_base-in-Use
returns-in_ok-is_base-in-Use c = first_of (grind (arith, common_steps), search rules)

pub returns-else-in_constructor : goal.returns-else-in_constructor
returns-else-in_constructor c = first_of (grind (arith, common_steps), search rules)

pub returns-in_default : goal.returns-in_default
returns-in_default c = first_of (grind (arith, common_steps), search rules)
