use Rattle.std.proofs.Common.{arith}
use Rattle.std.proofs.lemmas.Grind.{common_steps}
use Rattle.sv_plain.proofs.ExprViews.{views}
use Rattle.sv_plain.proofs.view.less_op.Goals as goal

pub returns-in-Less : goal.returns-in-Less
returns-in-Less c = grind (arith, common_steps, views)

pub returns-in-Greater : goal.returns-in-Greater
returns-in-Greater c = grind (arith, common_steps, views)

pub returns-in-AtMost : goal.returns-in-AtMost
returns-in-AtMost c = grind (arith, common_steps, views)

pub returns-in-AtLeast : goal.returns-in-AtLeast
returns-in-AtLeast c = grind (arith, common_steps, views)
