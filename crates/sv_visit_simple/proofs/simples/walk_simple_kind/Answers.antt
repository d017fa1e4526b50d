use Rattle.std.proofs.Common.{arith}
use Rattle.std.proofs.lemmas.Grind.{common_steps}
use Rattle.sv_visit_simple.proofs.simples.walk_simple_kind.Goals as goal

pub returns-in_err-walk_inner-in-Tuple : goal.returns-in_err-walk_inner-in-Tuple
returns-in_err-walk_inner-in-Tuple g c = grind (arith, common_steps)

pub returns-in-Decl : goal.returns-in-Decl
returns-in-Decl g c = grind (arith, common_steps)

pub returns-in_ok-walk_inner-in-Tuple : goal.returns-in_ok-walk_inner-in-Tuple
returns-in_ok-walk_inner-in-Tuple g c = grind (arith, common_steps)

pub returns-in-Action : goal.returns-in-Action
returns-in-Action g c = grind (arith, common_steps)

pub returns-in-Return : goal.returns-in-Return
returns-in-Return g c = grind (arith, common_steps)

pub returns-in-Break : goal.returns-in-Break
returns-in-Break g c = grind (arith, common_steps)

pub returns-in-Continue : goal.returns-in-Continue
returns-in-Continue g c = grind (arith, common_steps)

pub returns-in-Rest : goal.returns-in-Rest
returns-in-Rest g c = grind (arith, common_steps)

pub returns-in-Emit : goal.returns-in-Emit
returns-in-Emit g c = grind (arith, common_steps)

pub returns-in-Revert : goal.returns-in-Revert
returns-in-Revert g c = grind (arith, common_steps)
