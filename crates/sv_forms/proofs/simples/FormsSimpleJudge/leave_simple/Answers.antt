use Rattle.std.proofs.Common.{arith, rules}
use Rattle.std.proofs.lemmas.Grind.{common_steps}
use Rattle.sv_forms.proofs.simples.FormsSimpleJudge.leave_simple.Goals as goal

pub returns-in-Note : goal.returns-in-Note
returns-in-Note c = first_of (grind (arith, common_steps), search rules)

pub returns-in-Action : goal.returns-in-Action
returns-in-Action c = first_of (grind (arith, common_steps), search rules)

pub returns-in-Decl : goal.returns-in-Decl
returns-in-Decl c = first_of (grind (arith, common_steps), search rules)

pub returns-in-Slot : goal.returns-in-Slot
returns-in-Slot c = first_of (grind (arith, common_steps), search rules)

pub returns-in-Simple : goal.returns-in-Simple
returns-in-Simple c = first_of (grind (arith, common_steps), search rules)

pub returns-in-Bare : goal.returns-in-Bare
returns-in-Bare c = first_of (grind (arith, common_steps), search rules)
