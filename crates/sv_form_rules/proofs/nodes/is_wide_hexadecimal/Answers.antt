use Rattle.std.proofs.Common.{arith}
use Rattle.std.proofs.lemmas.Grind.{common_steps}
use Rattle.sv_plain.proofs.ExprViews.{parts}
use Rattle.sv_form_rules.proofs.nodes.is_wide_hexadecimal.Goals as goal

pub returns-then-not-is_address : goal.returns-then-not-is_address
returns-then-not-is_address c = grind (arith, common_steps, parts)

pub returns-else-not-is_address : goal.returns-else-not-is_address
returns-else-not-is_address c = grind (arith, common_steps, parts)
