use Rattle.sv_ast.proofs.ExprLaws.{args_positional_is, args_named_is}
use Rattle.sv_read.proofs.Exits.{left_by}
use Rattle.sv_parse_expr.proofs.post.ArgsKindParseExprs.parse.Goals as goal

pub parse-requires : goal.parse-requires
parse-requires g c = c.requires

pub returns-in_err-exprs : goal.returns-in_err-exprs
returns-in_err-exprs g c = left_by _ _ _ _ _ _ c.from_residual.ensures c.in_err-exprs.ensures

pub returns-in-First : goal.returns-in-First
returns-in-First g c = rw (args_positional_is c.in-First.exprs.0) (rw c.in-First.is at c.in_ok-exprs.ensures)

pub returns-in-Second : goal.returns-in-Second
returns-in-Second g c = rw (args_named_is c.in-Second.args.0) (rw c.in-Second.is at c.in_ok-exprs.ensures)
