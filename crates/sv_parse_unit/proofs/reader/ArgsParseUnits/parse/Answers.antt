use Rattle.sv_parse_unit.proofs.reader.ArgsParseUnits.parse.Goals as goal

pub returns : goal.returns
returns c = c.read_args.ensures
