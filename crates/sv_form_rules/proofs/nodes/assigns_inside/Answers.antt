use Rattle.std.proofs.Common.{arith}
use Rattle.std.proofs.lemmas.Grind.{common_steps}
use Rattle.sv_plain.proofs.ExprViews.{parts}
use Rattle.sv_form_rules.proofs.nodes.assigns_inside.Goals as goal

pub returns-then-steps : goal.returns-then-steps
returns-then-steps c = grind (arith, common_steps, parts)

pub returns-else-steps : goal.returns-else-steps
returns-else-steps c = grind (arith, common_steps, parts)

pub returns-in-Applied : goal.returns-in-Applied
returns-in-Applied c = grind (arith, common_steps, parts)

pub returns-in_default : goal.returns-in_default
returns-in_default c = grind (arith, common_steps, parts)
