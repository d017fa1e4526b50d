use Rattle.sv_term.proofs.WorkedValues.{tests_are_worked}
use Rattle.sv_term.proofs.laws.tests_are_worked.Goals as goal

pub returns : goal.returns
returns c = tests_are_worked
