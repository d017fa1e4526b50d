use Rattle.sv_parse_unit.proofs.reader.ArgsBeginsUnits.begins.Goals as goal

pub returns : goal.returns
returns c = c.sees.ensures
