use Rattle.std.proofs.Common.{◌+◌}
use Rattle.sv_fraction.proofs.+compare_rests.Given as goal

abbrev pub decreases-compare_rests : goal.decreases-compare_rests
decreases-compare_rests l = l.b + l.d
