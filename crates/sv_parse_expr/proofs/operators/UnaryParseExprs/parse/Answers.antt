use Rattle.sv_parse_expr.proofs.operators.UnaryParseExprs.parse.Goals as goal

pub unary-requires : goal.unary-requires
unary-requires g c = c.requires

pub returns : goal.returns
returns g c = c.unary.ensures
