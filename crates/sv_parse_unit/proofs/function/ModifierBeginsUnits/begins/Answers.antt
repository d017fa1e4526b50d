use Rattle.sv_parse_unit.proofs.function.ModifierBeginsUnits.begins.Goals as goal

pub returns : goal.returns
returns c = c.sees.ensures
