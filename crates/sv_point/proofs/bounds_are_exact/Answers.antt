use Rattle.sv_point.proofs.Bounds.{exact}
use Rattle.sv_point.proofs.bounds_are_exact.Goals as goal

pub returns : goal.returns
returns c = exact
