use Rattle.std.proofs.Common.{length}
use Rattle.sv_lin_cases.proofs.check.+is_normal.Given as goal

abbrev pub decreases-is_normal : goal.decreases-is_normal
decreases-is_normal l = length l.parts.now
