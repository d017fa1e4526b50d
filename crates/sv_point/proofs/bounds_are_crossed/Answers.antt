use Rattle.sv_point.proofs.Crossing.{crossing}
use Rattle.sv_point.proofs.bounds_are_crossed.Goals as goal

pub returns : goal.returns
returns c = crossing
