use Rattle.sv_parse_unit.proofs.reader.WhereParseUnits.parse.Goals as goal

pub returns : goal.returns
returns c = c.read_location.ensures
