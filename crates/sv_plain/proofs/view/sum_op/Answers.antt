use Rattle.std.proofs.Common.{arith}
use Rattle.std.proofs.lemmas.Grind.{common_steps}
use Rattle.sv_plain.proofs.ExprViews.{views}
use Rattle.sv_plain.proofs.view.sum_op.Goals as goal

pub returns-in-Add : goal.returns-in-Add
returns-in-Add c = grind (arith, common_steps, views)

pub returns-in-Subtract : goal.returns-in-Subtract
returns-in-Subtract c = grind (arith, common_steps, views)
