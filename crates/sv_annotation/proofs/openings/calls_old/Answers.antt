use Rattle.std.proofs.Common.{arith}
use Rattle.std.proofs.lemmas.Grind.{common_steps}
use Rattle.sv_plain.proofs.ExprViews.{parts}
use Rattle.sv_annotation.proofs.openings.calls_old.Goals as goal

pub returns-then-names_old : goal.returns-then-names_old
returns-then-names_old c = grind (arith, common_steps, parts)

pub returns-else-names_old : goal.returns-else-names_old
returns-else-names_old c = grind (arith, common_steps, parts)

pub returns-in_default : goal.returns-in_default
returns-in_default c = grind (arith, common_steps, parts)
