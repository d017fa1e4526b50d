use Rattle.sv_parse_expr.proofs.types.TypeExprParseExprs.parse.Goals as goal

pub type_expr-requires : goal.type_expr-requires
type_expr-requires g c = c.requires

pub returns : goal.returns
returns g c = c.type_expr.ensures
