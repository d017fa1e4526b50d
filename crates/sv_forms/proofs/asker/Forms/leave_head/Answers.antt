use Rattle.std.proofs.Common.{arith, rules}
use Rattle.std.proofs.lemmas.Grind.{common_steps}
use Rattle.sv_forms.proofs.asker.Forms.leave_head.Goals as goal

pub returns-in_err-no_base : goal.returns-in_err-no_base
returns-in_err-no_base c = first_of (grind (arith, common_steps), search rules)

pub returns : goal.returns
returns c = first_of (grind (arith, common_steps), search rules)
