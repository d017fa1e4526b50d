use Rattle.std.proofs.Common.{arith}
use Rattle.std.proofs.lemmas.Grind.{common_steps}
use Rattle.sv_plain.proofs.ExprViews.{views}
use Rattle.sv_plain.proofs.view.prod_op.Goals as goal

pub returns-in-Multiply : goal.returns-in-Multiply
returns-in-Multiply c = grind (arith, common_steps, views)

pub returns-in-Divide : goal.returns-in-Divide
returns-in-Divide c = grind (arith, common_steps, views)

pub returns-in-Remainder : goal.returns-in-Remainder
returns-in-Remainder c = grind (arith, common_steps, views)
