use Rattle.std.proofs.Common.{arith, rules}
use Rattle.std.proofs.lemmas.Grind.{common_steps}
use Rattle.sv_forms.proofs.stmts.FormsStmtJudge.enter_stmt.Goals as goal

pub returns-in-Stmt-clause-before : goal.returns-in-Stmt-clause-before
returns-in-Stmt-clause-before c = first_of (grind (arith, common_steps), search rules)

pub returns-in-Stmt-clause-state : goal.returns-in-Stmt-clause-state
returns-in-Stmt-clause-state c = first_of (grind (arith, common_steps), search rules)

pub returns-in-Block-clause-before : goal.returns-in-Block-clause-before
returns-in-Block-clause-before c = first_of (grind (arith, common_steps), search rules)

pub returns-in-Block-clause-state : goal.returns-in-Block-clause-state
returns-in-Block-clause-state c = first_of (grind (arith, common_steps), search rules)
