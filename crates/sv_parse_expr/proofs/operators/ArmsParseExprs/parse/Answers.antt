use Rattle.sv_ast.proofs.ExprLaws.{arms_is}
use Rattle.sv_read.proofs.Exits.{left_by}
use Rattle.sv_parse_expr.proofs.operators.ArmsParseExprs.parse.Goals as goal

pub parse-requires : goal.parse-requires
parse-requires g c = c.requires

pub returns-in_err-if_true : goal.returns-in_err-if_true
returns-in_err-if_true g c = left_by _ _ _ _ _ _ c.from_residual.ensures c.in_err-if_true.ensures

pub returns : goal.returns
returns g c = rw (arms_is _ _) c.in_ok-if_true.ensures
