use Rattle.std.proofs.Common.{arith}
use Rattle.std.proofs.lemmas.Grind.{common_steps}
use Rattle.sv_plain.proofs.ExprViews.{views}
use Rattle.sv_plain.proofs.view.operand_of.Goals as goal

pub returns-in-Unary : goal.returns-in-Unary
returns-in-Unary c = grind (arith, common_steps, views)

pub returns-in-Post : goal.returns-in-Post
returns-in-Post c = grind (arith, common_steps, views)
