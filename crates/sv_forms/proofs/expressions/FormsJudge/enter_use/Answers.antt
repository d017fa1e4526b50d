use Rattle.std.proofs.Common.{arith, rules}
use Rattle.std.proofs.lemmas.Grind.{common_steps}
use Rattle.sv_forms.proofs.expressions.FormsJudge.enter_use.Goals as goal

pub returns-in-Type-clause-before : goal.returns-in-Type-clause-before
returns-in-Type-clause-before c = first_of (grind (arith, common_steps), search rules)

pub returns-in-Type-clause-state : goal.returns-in-Type-clause-state
returns-in-Type-clause-state c = first_of (grind (arith, common_steps), search rules)

pub returns-in-Plain-clause-before : goal.returns-in-Plain-clause-before
returns-in-Plain-clause-before c = first_of (grind (arith, common_steps), search rules)

pub returns-in-Plain-clause-state : goal.returns-in-Plain-clause-state
returns-in-Plain-clause-state c = first_of (grind (arith, common_steps), search rules)

pub returns-in-Args-clause-before : goal.returns-in-Args-clause-before
returns-in-Args-clause-before c = first_of (grind (arith, common_steps), search rules)

pub returns-in-Args-clause-state : goal.returns-in-Args-clause-state
returns-in-Args-clause-state c = first_of (grind (arith, common_steps), search rules)
