use Rattle.std.proofs.Common.{arith, rules}
use Rattle.std.proofs.lemmas.Grind.{common_steps}
use Rattle.sv_forms.proofs.units.FormsUnitJudge.enter_unit.Goals as goal

pub returns-in-Text-clause-before : goal.returns-in-Text-clause-before
returns-in-Text-clause-before c = first_of (grind (arith, common_steps), search rules)

pub returns-in-Text-clause-state : goal.returns-in-Text-clause-state
returns-in-Text-clause-state c = first_of (grind (arith, common_steps), search rules)

pub returns-in-Constant-clause-before : goal.returns-in-Constant-clause-before
returns-in-Constant-clause-before c = first_of (grind (arith, common_steps), search rules)

pub returns-in-Constant-clause-state : goal.returns-in-Constant-clause-state
returns-in-Constant-clause-state c = first_of (grind (arith, common_steps), search rules)

pub returns-in-Contract-clause-before : goal.returns-in-Contract-clause-before
returns-in-Contract-clause-before c = first_of (grind (arith, common_steps), search rules)

pub returns-in-Contract-clause-state : goal.returns-in-Contract-clause-state
returns-in-Contract-clause-state c = first_of (grind (arith, common_steps), search rules)

pub returns-in-Base-clause-before : goal.returns-in-Base-clause-before
returns-in-Base-clause-before c = first_of (grind (arith, common_steps), search rules)

pub returns-in-Base-clause-state : goal.returns-in-Base-clause-state
returns-in-Base-clause-state c = first_of (grind (arith, common_steps), search rules)
