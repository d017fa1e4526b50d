use Rattle.sv_ast.proofs.StmtLaws.{body_block_is, body_simple_is}
use Rattle.sv_read.proofs.Exits.{left_by}
use Rattle.sv_parse_stmt.proofs.block.BodyKindParseStatements.parse.Goals as goal

pub parse-requires : goal.parse-requires
parse-requires g c = c.requires

pub returns-in_err-block : goal.returns-in_err-block
returns-in_err-block g c = left_by _ _ _ _ _ _ c.from_residual.ensures c.in_err-block.ensures

pub returns-in-First : goal.returns-in-First
returns-in-First g c = rw (body_block_is c.in-First.block) (rw c.in-First.is at c.in_ok-block.ensures)

pub returns-in-Second : goal.returns-in-Second
returns-in-Second g c = rw (body_simple_is c.in-Second.simple) (rw c.in-Second.is at c.in_ok-block.ensures)
