use Rattle.sv_parse_expr.proofs.operators.ExprParseExprs.parse.Goals as goal

pub expr-requires : goal.expr-requires
expr-requires g c = c.requires

pub returns : goal.returns
returns g c = c.expr.ensures
