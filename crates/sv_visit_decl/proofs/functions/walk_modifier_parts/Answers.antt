use Rattle.std.proofs.Common.{arith}
use Rattle.std.proofs.lemmas.Grind.{common_steps}
use Rattle.sv_visit_decl.proofs.functions.walk_modifier_parts.Goals as goal

pub returns-in_err-walk_optional_params : goal.returns-in_err-walk_optional_params
returns-in_err-walk_optional_params g c = grind (arith, common_steps)

pub returns-in_err-walk_modifier_words : goal.returns-in_err-walk_modifier_words
returns-in_err-walk_modifier_words g c = grind (arith, common_steps)

pub returns : goal.returns
returns g c = grind (arith, common_steps)
