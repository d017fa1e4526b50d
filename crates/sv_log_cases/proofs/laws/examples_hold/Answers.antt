use Rattle.sv_log_cases.proofs.Examples.{examples}
use Rattle.sv_log_cases.proofs.laws.examples_hold.Goals as goal

pub returns : goal.returns
returns c = examples
