use Rattle.std.proofs.Common.{arith}
use Rattle.std.proofs.lemmas.Grind.{common_steps}
use Rattle.sv_plain.proofs.ExprViews.{parts}
use Rattle.sv_annotation.proofs.openings.opening_of.Goals as goal

pub returns-in-Name : goal.returns-in-Name
returns-in-Name c = grind (arith, common_steps, parts)

pub returns-in-Address : goal.returns-in-Address
returns-in-Address c = grind (arith, common_steps, parts)

pub returns-in-Payable : goal.returns-in-Payable
returns-in-Payable c = grind (arith, common_steps, parts)

pub returns-in-OfType : goal.returns-in-OfType
returns-in-OfType c = grind (arith, common_steps, parts)

pub returns-in_default : goal.returns-in_default
returns-in_default c = grind (arith, common_steps, parts)
