use Rattle.sv_ast.proofs.StmtLaws.{stmt_block_is, stmt_unchecked_is, stmt_simple_is, stmt_if_is}
use Rattle.sv_read.proofs.Exits.{left_by}
use Rattle.sv_parse_stmt.proofs.block.StmtKindParseStatements.parse.Goals as goal

pub parse-requires : goal.parse-requires
parse-requires g c = c.requires

pub returns-in_err-block : goal.returns-in_err-block
returns-in_err-block g c = left_by _ _ _ _ _ _ c.from_residual.ensures c.in_err-block.ensures

pub returns-in-First : goal.returns-in-First
returns-in-First g c = rw (stmt_block_is c.in-First.block) (rw c.in-First.is at c.in_ok-block.ensures)

pub returns-in-Second-First : goal.returns-in-Second-First
returns-in-Second-First g c = rw (stmt_unchecked_is c.in-Second-First.block) (rw (c.in-Second-First.is, c.in-Second-First.field-0-is) at c.in_ok-block.ensures)

pub returns-in-Second-Second-First : goal.returns-in-Second-Second-First
returns-in-Second-Second-First g c = rw (stmt_simple_is c.in-Second-Second-First.simple) (rw (c.in-Second-Second-First.is, c.in-Second-Second-First.field-0-is, c.in-Second-Second-First.field-0-0-is) at c.in_ok-block.ensures)

pub returns-in-Second-Second-Second-First : goal.returns-in-Second-Second-Second-First
returns-in-Second-Second-Second-First g c = rw (stmt_if_is c.in-Second-Second-Second-First.branches) (rw (c.in-Second-Second-Second-First.is, c.in-Second-Second-Second-First.field-0-is, c.in-Second-Second-Second-First.field-0-0-is, c.in-Second-Second-Second-First.field-0-0-0-is) at c.in_ok-block.ensures)

pub returns-in-Second-Second-Second-Second : goal.returns-in-Second-Second-Second-Second
returns-in-Second-Second-Second-Second g c = rw (c.loop_kind.ensures) (rw (c.in-Second-Second-Second-Second.is, c.in-Second-Second-Second-Second.field-0-is, c.in-Second-Second-Second-Second.field-0-0-is, c.in-Second-Second-Second-Second.field-0-0-0-is) at c.in_ok-block.ensures)
