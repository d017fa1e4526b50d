use Rattle.std.proofs.Common.{arith}
use Rattle.std.proofs.lemmas.Grind.{common_steps}
use Rattle.sv_plain.proofs.ExprViews.{views}
use Rattle.sv_plain.proofs.view.Node.view.Goals as goal

pub returns-in-Expr : goal.returns-in-Expr
returns-in-Expr c = grind (arith, common_steps, views)

pub returns-in-Or : goal.returns-in-Or
returns-in-Or c = grind (arith, common_steps, views)

pub returns-in-And : goal.returns-in-And
returns-in-And c = grind (arith, common_steps, views)

pub returns-in-Same : goal.returns-in-Same
returns-in-Same c = grind (arith, common_steps, views)

pub returns-in-Less : goal.returns-in-Less
returns-in-Less c = grind (arith, common_steps, views)

pub returns-in-Sum : goal.returns-in-Sum
returns-in-Sum c = grind (arith, common_steps, views)

pub returns-in-Prod : goal.returns-in-Prod
returns-in-Prod c = grind (arith, common_steps, views)

pub returns-in-Term : goal.returns-in-Term
returns-in-Term c = grind (arith, common_steps, views)

pub returns-in-Unary : goal.returns-in-Unary
returns-in-Unary c = grind (arith, common_steps, views)

pub returns-in-Power : goal.returns-in-Power
returns-in-Power c = grind (arith, common_steps, views)

pub returns-in-Post : goal.returns-in-Post
returns-in-Post c = grind (arith, common_steps, views)

pub returns-in-Atom : goal.returns-in-Atom
returns-in-Atom c = grind (arith, common_steps, views)
