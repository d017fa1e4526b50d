use Rattle.std.proofs.Common.{arith}
use Rattle.std.proofs.lemmas.Grind.{common_steps}
use Rattle.sv_plain.proofs.ExprViews.{parts}
use Rattle.sv_annotation.proofs.openings.+bare.Goals as goal

pub bare-requires : goal.bare-requires
bare-requires t c = grind (arith, common_steps, parts)

pub returns-in-Paren : goal.returns-in-Paren
returns-in-Paren t c = grind (arith, common_steps, parts)

pub returns-in_default : goal.returns-in_default
returns-in_default t c = grind (arith, common_steps, parts)
