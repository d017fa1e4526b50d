use Rattle.std.proofs.Common.{arith, rules}
use Rattle.std.proofs.lemmas.Grind.{common_steps}
use Rattle.sv_forms.proofs.stmts.FormsStmtJudge.leave_stmt.Goals as goal

pub returns-in-Stmt : goal.returns-in-Stmt
returns-in-Stmt c = first_of (grind (arith, common_steps), search rules)

pub returns-in-Block : goal.returns-in-Block
returns-in-Block c = first_of (grind (arith, common_steps), search rules)
