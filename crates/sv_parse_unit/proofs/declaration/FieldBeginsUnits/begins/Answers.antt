use Rattle.sv_parse_unit.proofs.declaration.FieldBeginsUnits.begins.Goals as goal

pub returns : goal.returns
returns c = c.sees_type.ensures
