use Rattle.sv_gcl.proofs.WorkedRuns.{runs_are_worked}
use Rattle.sv_gcl.proofs.laws.runs_are_worked.Goals as goal

pub returns : goal.returns
returns c = runs_are_worked
