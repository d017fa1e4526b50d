use Rattle.std.proofs.Common.{arith, rules}
use Rattle.std.proofs.lemmas.Grind.{common_steps}
use Rattle.sv_forms.proofs.decls.FormsDeclJudge.enter_decl.Goals as goal

pub returns-in-Struct-clause-before : goal.returns-in-Struct-clause-before
returns-in-Struct-clause-before c = first_of (grind (arith, common_steps), search rules)

pub returns-in-Struct-clause-state : goal.returns-in-Struct-clause-state
returns-in-Struct-clause-state c = first_of (grind (arith, common_steps), search rules)

pub returns-in-Field-clause-before : goal.returns-in-Field-clause-before
returns-in-Field-clause-before c = first_of (grind (arith, common_steps), search rules)

pub returns-in-Field-clause-state : goal.returns-in-Field-clause-state
returns-in-Field-clause-state c = first_of (grind (arith, common_steps), search rules)

pub returns-in-Enum-clause-before : goal.returns-in-Enum-clause-before
returns-in-Enum-clause-before c = first_of (grind (arith, common_steps), search rules)

pub returns-in-Enum-clause-state : goal.returns-in-Enum-clause-state
returns-in-Enum-clause-state c = first_of (grind (arith, common_steps), search rules)

pub returns-in-Event-clause-before : goal.returns-in-Event-clause-before
returns-in-Event-clause-before c = first_of (grind (arith, common_steps), search rules)

pub returns-in-Event-clause-state : goal.returns-in-Event-clause-state
returns-in-Event-clause-state c = first_of (grind (arith, common_steps), search rules)

pub returns-in-EventParam-clause-before : goal.returns-in-EventParam-clause-before
returns-in-EventParam-clause-before c = first_of (grind (arith, common_steps), search rules)

pub returns-in-EventParam-clause-state : goal.returns-in-EventParam-clause-state
returns-in-EventParam-clause-state c = first_of (grind (arith, common_steps), search rules)

pub returns-in-Error-clause-before : goal.returns-in-Error-clause-before
returns-in-Error-clause-before c = first_of (grind (arith, common_steps), search rules)

pub returns-in-Error-clause-state : goal.returns-in-Error-clause-state
returns-in-Error-clause-state c = first_of (grind (arith, common_steps), search rules)

pub returns-in-ErrorParam-clause-before : goal.returns-in-ErrorParam-clause-before
returns-in-ErrorParam-clause-before c = first_of (grind (arith, common_steps), search rules)

pub returns-in-ErrorParam-clause-state : goal.returns-in-ErrorParam-clause-state
returns-in-ErrorParam-clause-state c = first_of (grind (arith, common_steps), search rules)

pub returns-in-Variable-clause-before : goal.returns-in-Variable-clause-before
returns-in-Variable-clause-before c = first_of (grind (arith, common_steps), search rules)

pub returns-in-Variable-clause-state : goal.returns-in-Variable-clause-state
returns-in-Variable-clause-state c = first_of (grind (arith, common_steps), search rules)

pub returns-in-Word-clause-before : goal.returns-in-Word-clause-before
returns-in-Word-clause-before c = first_of (grind (arith, common_steps), search rules)

pub returns-in-Word-clause-state : goal.returns-in-Word-clause-state
returns-in-Word-clause-state c = first_of (grind (arith, common_steps), search rules)

pub returns-in-Over-clause-before : goal.returns-in-Over-clause-before
returns-in-Over-clause-before c = first_of (grind (arith, common_steps), search rules)

pub returns-in-Over-clause-state : goal.returns-in-Over-clause-state
returns-in-Over-clause-state c = first_of (grind (arith, common_steps), search rules)

pub returns-in-Param-clause-before : goal.returns-in-Param-clause-before
returns-in-Param-clause-before c = first_of (grind (arith, common_steps), search rules)

pub returns-in-Param-clause-state : goal.returns-in-Param-clause-state
returns-in-Param-clause-state c = first_of (grind (arith, common_steps), search rules)
