use Rattle.sv_point.proofs.Worths.{worth_exact}
use Rattle.sv_point.proofs.worth_is_exact.Goals as goal

pub returns : goal.returns
returns c = worth_exact
