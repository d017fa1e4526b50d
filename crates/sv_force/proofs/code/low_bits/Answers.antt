use Rattle.std.proofs.Common.{arith}
use Rattle.sv_force.specs.Codes.{low}
use Rattle.sv_force.proofs.code.low_bits.Goals as goal

pub returns : goal.returns
unfolding low
returns c = grind (arith, c.unsigned_abs.ensures)
