use Rattle.sv_ast.proofs.ExprLaws.{same_rest_is}
use Rattle.sv_read.proofs.Exits.{left_by}
use Rattle.sv_parse_expr.proofs.operators.SameRestParseExprs.parse.Goals as goal

pub parse-requires : goal.parse-requires
parse-requires g c = c.requires

pub returns-in_err-op : goal.returns-in_err-op
returns-in_err-op g c = left_by _ _ _ _ _ _ c.from_residual.ensures c.in_err-op.ensures

pub returns : goal.returns
returns g c = rw (same_rest_is _ _) c.in_ok-op.ensures
