use Rattle.std.proofs.Common.{arith}
use Rattle.std.proofs.lemmas.Grind.{common_steps}
use Rattle.sv_plain.proofs.ExprViews.{views}
use Rattle.sv_plain.proofs.view.view_sum.Goals as goal

pub returns-then-not-more : goal.returns-then-not-more
returns-then-not-more c = grind (arith, common_steps, views)

pub returns : goal.returns
returns c = grind (arith, common_steps, views)
