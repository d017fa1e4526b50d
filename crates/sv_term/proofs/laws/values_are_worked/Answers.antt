use Rattle.sv_term.proofs.WorkedValues.{values_are_worked}
use Rattle.sv_term.proofs.laws.values_are_worked.Goals as goal

pub returns : goal.returns
returns c = values_are_worked
