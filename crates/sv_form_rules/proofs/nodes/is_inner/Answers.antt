use Rattle.std.proofs.Common.{arith}
use Rattle.std.proofs.lemmas.Grind.{common_steps}
use Rattle.sv_plain.proofs.ExprViews.{parts}
use Rattle.sv_form_rules.proofs.nodes.is_inner.Goals as goal

pub returns-in-Inner : goal.returns-in-Inner
returns-in-Inner c = grind (arith, common_steps, parts)

pub returns-in-Statement : goal.returns-in-Statement
returns-in-Statement c = grind (arith, common_steps, parts)
