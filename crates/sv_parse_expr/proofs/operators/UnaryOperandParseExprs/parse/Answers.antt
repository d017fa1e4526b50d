use Rattle.sv_ast.proofs.ExprLaws.{operand_unary_is, operand_post_is}
use Rattle.sv_read.proofs.Exits.{left_by}
use Rattle.sv_parse_expr.proofs.operators.UnaryOperandParseExprs.parse.Goals as goal

pub parse-requires : goal.parse-requires
parse-requires g c = c.requires

pub returns-in_err-unary : goal.returns-in_err-unary
returns-in_err-unary g c = left_by _ _ _ _ _ _ c.from_residual.ensures c.in_err-unary.ensures

pub returns-in-First : goal.returns-in-First
returns-in-First g c = rw (operand_unary_is c.in-First.unary) (rw c.in-First.is at c.in_ok-unary.ensures)

pub returns-in-Second : goal.returns-in-Second
returns-in-Second g c = rw (operand_post_is c.in-Second.post) (rw c.in-Second.is at c.in_ok-unary.ensures)
