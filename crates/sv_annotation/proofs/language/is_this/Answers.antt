use Rattle.std.proofs.Common.{arith}
use Rattle.std.proofs.lemmas.Grind.{common_steps}
use Rattle.sv_plain.proofs.ExprViews.{parts}
use Rattle.sv_annotation.proofs.language.is_this.Goals as goal

pub returns-in-This : goal.returns-in-This
returns-in-This c = grind (arith, common_steps, parts)

pub returns-in_default : goal.returns-in_default
returns-in_default c = grind (arith, common_steps, parts)
