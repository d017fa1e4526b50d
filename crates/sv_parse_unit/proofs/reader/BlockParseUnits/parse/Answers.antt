use Rattle.sv_parse_unit.proofs.reader.BlockParseUnits.parse.Goals as goal

pub returns : goal.returns
returns c = c.read_block.ensures
