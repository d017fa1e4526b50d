use Rattle.sv_parse_unit.proofs.function.ParamsBeginsUnits.begins.Goals as goal

pub returns : goal.returns
returns c = c.sees.ensures
