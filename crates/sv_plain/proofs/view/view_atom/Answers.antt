use Rattle.std.proofs.Common.{arith}
use Rattle.std.proofs.lemmas.Grind.{common_steps}
use Rattle.sv_plain.proofs.ExprViews.{views}
use Rattle.sv_plain.proofs.view.view_atom.Goals as goal

pub returns : goal.returns
returns c = grind (arith, common_steps, views)
