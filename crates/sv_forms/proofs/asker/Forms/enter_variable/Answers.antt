use Rattle.std.proofs.Common.{arith, rules}
use Rattle.std.proofs.lemmas.Grind.{common_steps}
use Rattle.sv_forms.proofs.asker.Forms.enter_variable.Goals as goal

pub returns-clause-before : goal.returns-clause-before
returns-clause-before c = first_of (grind (arith, common_steps), search rules)

pub returns-clause-state : goal.returns-clause-state
returns-clause-state c = first_of (grind (arith, common_steps), search rules)
