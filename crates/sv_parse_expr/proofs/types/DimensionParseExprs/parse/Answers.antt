use Rattle.sv_ast.proofs.ExprLaws.{dimension_is}
use Rattle.sv_read.proofs.Exits.{left_by}
use Rattle.sv_parse_expr.proofs.types.DimensionParseExprs.parse.Goals as goal

pub parse-requires : goal.parse-requires
parse-requires g c = c.requires

pub returns-in_err-length : goal.returns-in_err-length
returns-in_err-length g c = left_by _ _ _ _ _ _ c.from_residual.ensures c.in_err-length.ensures

pub returns : goal.returns
returns g c = rw (dimension_is _) c.in_ok-length.ensures
