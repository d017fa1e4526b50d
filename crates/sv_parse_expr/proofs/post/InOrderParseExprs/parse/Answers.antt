use Rattle.sv_read.proofs.Exits.{left_by}
use Rattle.sv_parse_expr.proofs.post.InOrderParseExprs.parse.Goals as goal

pub parse-requires : goal.parse-requires
parse-requires g c = c.requires

pub returns-in_err-exprs : goal.returns-in_err-exprs
returns-in_err-exprs g c = left_by _ _ _ _ _ _ c.from_residual.ensures c.in_err-exprs.ensures

pub returns : goal.returns
returns g c = c.in_ok-exprs.ensures
