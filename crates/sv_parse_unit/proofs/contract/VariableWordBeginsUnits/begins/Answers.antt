use Rattle.sv_parse_unit.proofs.contract.VariableWordBeginsUnits.begins.Goals as goal

pub returns : goal.returns
returns c = c.begins.ensures
