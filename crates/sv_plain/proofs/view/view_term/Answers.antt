use Rattle.std.proofs.Common.{arith}
use Rattle.std.proofs.lemmas.Grind.{common_steps}
use Rattle.sv_plain.proofs.ExprViews.{views}
use Rattle.sv_plain.proofs.view.view_term.Goals as goal

pub returns-in-Unary : goal.returns-in-Unary
returns-in-Unary c = grind (arith, common_steps, views)

pub returns-in-Power : goal.returns-in-Power
returns-in-Power c = grind (arith, common_steps, views)
