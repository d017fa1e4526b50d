use Rattle.sv_parse_unit.proofs.declaration.EventBeginsUnits.begins.Goals as goal

pub returns : goal.returns
returns c = c.sees.ensures
