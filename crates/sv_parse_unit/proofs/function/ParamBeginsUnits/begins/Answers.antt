use Rattle.sv_parse_unit.proofs.function.ParamBeginsUnits.begins.Goals as goal

pub returns : goal.returns
returns c = c.sees_type.ensures
