use Rattle.sv_parse_unit.proofs.reader.WhereBeginsUnits.begins.Goals as goal

pub returns : goal.returns
returns c = c.sees_any.ensures
