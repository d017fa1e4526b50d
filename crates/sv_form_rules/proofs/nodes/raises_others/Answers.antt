use Rattle.std.proofs.Common.{arith}
use Rattle.std.proofs.lemmas.Grind.{common_steps}
use Rattle.sv_plain.proofs.ExprViews.{parts}
use Rattle.sv_form_rules.proofs.nodes.raises_others.Goals as goal

pub returns-after-is_literal : goal.returns-after-is_literal
returns-after-is_literal c = grind (arith, common_steps, parts)

pub returns-in_default : goal.returns-in_default
returns-in_default c = grind (arith, common_steps, parts)
