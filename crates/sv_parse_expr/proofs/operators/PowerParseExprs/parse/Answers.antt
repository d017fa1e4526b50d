use Rattle.sv_parse_expr.proofs.operators.PowerParseExprs.parse.Goals as goal

pub power-requires : goal.power-requires
power-requires g c = c.requires

pub returns : goal.returns
returns g c = c.power.ensures
