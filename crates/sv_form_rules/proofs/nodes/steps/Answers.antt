use Rattle.std.proofs.Common.{arith}
use Rattle.std.proofs.lemmas.Grind.{common_steps}
use Rattle.sv_plain.proofs.ExprViews.{parts}
use Rattle.sv_form_rules.proofs.nodes.steps.Goals as goal

pub returns-in-Increment : goal.returns-in-Increment
returns-in-Increment c = grind (arith, common_steps, parts)

pub returns-in-Negate : goal.returns-in-Negate
returns-in-Negate c = grind (arith, common_steps, parts)
