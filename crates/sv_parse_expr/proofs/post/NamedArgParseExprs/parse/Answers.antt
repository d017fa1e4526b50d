use Rattle.sv_ast.proofs.ExprLaws.{named_arg_is}
use Rattle.sv_read.proofs.Exits.{left_by}
use Rattle.sv_parse_expr.proofs.post.NamedArgParseExprs.parse.Goals as goal

pub parse-requires : goal.parse-requires
parse-requires g c = c.requires

pub returns-in_err-name : goal.returns-in_err-name
returns-in_err-name g c = left_by _ _ _ _ _ _ c.from_residual.ensures c.in_err-name.ensures

pub returns : goal.returns
returns g c = rw (named_arg_is _ _) c.in_ok-name.ensures
