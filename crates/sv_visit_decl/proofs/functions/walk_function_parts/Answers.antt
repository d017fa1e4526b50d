use Rattle.std.proofs.Common.{arith}
use Rattle.std.proofs.lemmas.Grind.{common_steps}
use Rattle.sv_visit_decl.proofs.functions.walk_function_parts.Goals as goal

pub returns-in_err-walk_params : goal.returns-in_err-walk_params
returns-in_err-walk_params g c = grind (arith, common_steps)

pub returns-in_err-walk_optional_params : goal.returns-in_err-walk_optional_params
returns-in_err-walk_optional_params g c = grind (arith, common_steps)

pub returns-in_err-walk_notes : goal.returns-in_err-walk_notes
returns-in_err-walk_notes g c = grind (arith, common_steps)

pub returns-in_err-walk_heads : goal.returns-in_err-walk_heads
returns-in_err-walk_heads g c = grind (arith, common_steps)

pub returns : goal.returns
returns g c = grind (arith, common_steps)
