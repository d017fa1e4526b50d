use Rattle.std.proofs.Common.{arith}
use Rattle.std.proofs.lemmas.Grind.{common_steps}
use Rattle.sv_plain.proofs.ExprViews.{parts}
use Rattle.sv_form_rules.proofs.nodes.is_wide.Goals as goal

pub returns-in-Number : goal.returns-in-Number
returns-in-Number c = grind (arith, common_steps, parts)

pub returns-in-Hexadecimal : goal.returns-in-Hexadecimal
returns-in-Hexadecimal c = grind (arith, common_steps, parts)

pub returns-in_default : goal.returns-in_default
returns-in_default c = grind (arith, common_steps, parts)
