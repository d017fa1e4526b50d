use Rattle.std.proofs.Common.{arith}
use Rattle.std.proofs.lemmas.Grind.{common_steps}
use Rattle.sv_plain.proofs.ExprViews.{views}
use Rattle.sv_plain.proofs.view.Rest.split.Goals as goal

pub returns-in_err-x-in-Or : goal.returns-in_err-x-in-Or
returns-in_err-x-in-Or c = grind (arith, common_steps, views)

pub returns-in_err-x-in-And : goal.returns-in_err-x-in-And
returns-in_err-x-in-And c = grind (arith, common_steps, views)

pub returns-in_err-x-in-Same : goal.returns-in_err-x-in-Same
returns-in_err-x-in-Same c = grind (arith, common_steps, views)

pub returns-in_err-x-in-Less : goal.returns-in_err-x-in-Less
returns-in_err-x-in-Less c = grind (arith, common_steps, views)

pub returns-in_err-x-in-Sum : goal.returns-in_err-x-in-Sum
returns-in_err-x-in-Sum c = grind (arith, common_steps, views)

pub returns-in_err-x-in-Prod : goal.returns-in_err-x-in-Prod
returns-in_err-x-in-Prod c = grind (arith, common_steps, views)

pub returns-in_ok-x-in-Or : goal.returns-in_ok-x-in-Or
returns-in_ok-x-in-Or c = grind (arith, common_steps, views)

pub returns-in_ok-x-in-And : goal.returns-in_ok-x-in-And
returns-in_ok-x-in-And c = grind (arith, common_steps, views)

pub returns-in_ok-x-in-Same : goal.returns-in_ok-x-in-Same
returns-in_ok-x-in-Same c = grind (arith, common_steps, views)

pub returns-in_ok-x-in-Less : goal.returns-in_ok-x-in-Less
returns-in_ok-x-in-Less c = grind (arith, common_steps, views)

pub returns-in_ok-x-in-Sum : goal.returns-in_ok-x-in-Sum
returns-in_ok-x-in-Sum c = grind (arith, common_steps, views)

pub returns-in_ok-x-in-Prod : goal.returns-in_ok-x-in-Prod
returns-in_ok-x-in-Prod c = grind (arith, common_steps, views)
