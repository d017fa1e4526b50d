use Rattle.std.proofs.Common.{arith}
use Rattle.std.proofs.lemmas.Grind.{common_steps}
use Rattle.sv_plain.proofs.ExprViews.{parts}
use Rattle.sv_form_rules.proofs.nodes.is_last.Goals as goal

pub returns-in-None : goal.returns-in-None
returns-in-None c = grind (arith, common_steps, parts)

pub returns-in-Some : goal.returns-in-Some
returns-in-Some c = grind (arith, common_steps, parts)
