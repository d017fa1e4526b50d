use Rattle.sv_parse_unit.proofs.declaration.StructBeginsUnits.begins.Goals as goal

pub returns : goal.returns
returns c = c.sees.ensures
