use Rattle.sv_ast.proofs.StmtLaws.{stmt_while_is, stmt_for_is}
use Rattle.sv_parse_stmt.proofs.block.loop_kind.Goals as goal

pub returns-in-First : goal.returns-in-First
returns-in-First c = rw c.in-First.is (stmt_while_is _)

pub returns-in-Second : goal.returns-in-Second
returns-in-Second c = rw c.in-Second.is (stmt_for_is _)
