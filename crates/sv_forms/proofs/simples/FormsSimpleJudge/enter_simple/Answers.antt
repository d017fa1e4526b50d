use Rattle.std.proofs.Common.{arith, rules}
use Rattle.std.proofs.lemmas.Grind.{common_steps}
use Rattle.sv_forms.proofs.simples.FormsSimpleJudge.enter_simple.Goals as goal

pub returns-in-Note-clause-before : goal.returns-in-Note-clause-before
returns-in-Note-clause-before c = first_of (grind (arith, common_steps), search rules)

pub returns-in-Note-clause-state : goal.returns-in-Note-clause-state
returns-in-Note-clause-state c = first_of (grind (arith, common_steps), search rules)

pub returns-in-Action-clause-before : goal.returns-in-Action-clause-before
returns-in-Action-clause-before c = first_of (grind (arith, common_steps), search rules)

pub returns-in-Action-clause-state : goal.returns-in-Action-clause-state
returns-in-Action-clause-state c = first_of (grind (arith, common_steps), search rules)

pub returns-in-Decl-clause-before : goal.returns-in-Decl-clause-before
returns-in-Decl-clause-before c = first_of (grind (arith, common_steps), search rules)

pub returns-in-Decl-clause-state : goal.returns-in-Decl-clause-state
returns-in-Decl-clause-state c = first_of (grind (arith, common_steps), search rules)

pub returns-in-Slot-clause-before : goal.returns-in-Slot-clause-before
returns-in-Slot-clause-before c = first_of (grind (arith, common_steps), search rules)

pub returns-in-Slot-clause-state : goal.returns-in-Slot-clause-state
returns-in-Slot-clause-state c = first_of (grind (arith, common_steps), search rules)

pub returns-in-Simple-clause-before : goal.returns-in-Simple-clause-before
returns-in-Simple-clause-before c = first_of (grind (arith, common_steps), search rules)

pub returns-in-Simple-clause-state : goal.returns-in-Simple-clause-state
returns-in-Simple-clause-state c = first_of (grind (arith, common_steps), search rules)

pub returns-in-Bare-clause-before : goal.returns-in-Bare-clause-before
returns-in-Bare-clause-before c = first_of (grind (arith, common_steps), search rules)

pub returns-in-Bare-clause-state : goal.returns-in-Bare-clause-state
returns-in-Bare-clause-state c = first_of (grind (arith, common_steps), search rules)
