use Rattle.std.proofs.Common.{arith, rules}
use Rattle.std.proofs.lemmas.Grind.{common_steps}
use Rattle.sv_forms.proofs.functions.FormsFunctionJudge.enter_function.Goals as goal

pub returns-in-Function-clause-before : goal.returns-in-Function-clause-before
returns-in-Function-clause-before c = first_of (grind (arith, common_steps), search rules)

pub returns-in-Function-clause-state : goal.returns-in-Function-clause-state
returns-in-Function-clause-state c = first_of (grind (arith, common_steps), search rules)

pub returns-in-Constructor-clause-before : goal.returns-in-Constructor-clause-before
returns-in-Constructor-clause-before c = first_of (grind (arith, common_steps), search rules)

pub returns-in-Constructor-clause-state : goal.returns-in-Constructor-clause-state
returns-in-Constructor-clause-state c = first_of (grind (arith, common_steps), search rules)

pub returns-in-Special-clause-before : goal.returns-in-Special-clause-before
returns-in-Special-clause-before c = first_of (grind (arith, common_steps), search rules)

pub returns-in-Special-clause-state : goal.returns-in-Special-clause-state
returns-in-Special-clause-state c = first_of (grind (arith, common_steps), search rules)

pub returns-in-Modifier-clause-before : goal.returns-in-Modifier-clause-before
returns-in-Modifier-clause-before c = first_of (grind (arith, common_steps), search rules)

pub returns-in-Modifier-clause-state : goal.returns-in-Modifier-clause-state
returns-in-Modifier-clause-state c = first_of (grind (arith, common_steps), search rules)

pub returns-in-Head-clause-before : goal.returns-in-Head-clause-before
returns-in-Head-clause-before c = first_of (grind (arith, common_steps), search rules)

pub returns-in-Head-clause-state : goal.returns-in-Head-clause-state
returns-in-Head-clause-state c = first_of (grind (arith, common_steps), search rules)
