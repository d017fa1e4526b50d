use Rattle.std.proofs.Common.{arith}
use Rattle.std.proofs.lemmas.Grind.{common_steps}
use Rattle.sv_plain.proofs.ExprViews.{parts}
use Rattle.sv_form_rules.proofs.nodes.steps_inside.Goals as goal

pub suffixes-init : goal.suffixes-init
suffixes-init c = grind (arith, common_steps, parts)

pub returns-then-not-is_last : goal.returns-then-not-is_last
returns-then-not-is_last c = grind (arith, common_steps, parts)

pub suffixes-smaller : goal.suffixes-smaller
suffixes-smaller c = grind (arith, common_steps, parts)

pub suffixes-preserved : goal.suffixes-preserved
suffixes-preserved c = grind (arith, common_steps, parts)

pub returns : goal.returns
returns c = grind (arith, common_steps, parts)
