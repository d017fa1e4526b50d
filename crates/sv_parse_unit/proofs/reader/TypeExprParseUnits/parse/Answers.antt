use Rattle.sv_parse_unit.proofs.reader.TypeExprParseUnits.parse.Goals as goal

pub returns : goal.returns
returns c = c.read_type.ensures
