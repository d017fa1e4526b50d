use Rattle.sv_lin.proofs.Places.{renumbered_accepted}
use Rattle.sv_lin.proofs.laws.renumbered_are_accepted.Goals as goal

pub returns : goal.returns
returns c = renumbered_accepted
