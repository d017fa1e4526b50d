use Rattle.std.proofs.Common.{arith}
use Rattle.std.proofs.lemmas.Grind.{common_steps}
use Rattle.sv_plain.proofs.ExprViews.{views}
use Rattle.sv_plain.proofs.view.same_op.Goals as goal

pub returns-in-Equal : goal.returns-in-Equal
returns-in-Equal c = grind (arith, common_steps, views)

pub returns-in-Unequal : goal.returns-in-Unequal
returns-in-Unequal c = grind (arith, common_steps, views)
