use Rattle.std.proofs.Common.{◌+◌, length}
use Rattle.sv_row.proofs.sum.+add_sum.Given as goal

abbrev pub decreases-add_sum : goal.decreases-add_sum
decreases-add_sum l = length l.own.now + length l.other.now
