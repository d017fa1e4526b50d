use Rattle.sv_parse_unit.proofs.reader.ExprParseUnits.parse.Goals as goal

pub returns : goal.returns
returns c = c.read_expr.ensures
