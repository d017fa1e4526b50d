use Rattle.std.proofs.Common.{length}
use Rattle.sv_lin.proofs.place.+worked.Given as goal

abbrev pub decreases-worked : goal.decreases-worked
decreases-worked l = length l.parts.now
