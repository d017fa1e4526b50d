use Rattle.std.proofs.Common.{arith}
use Rattle.sv_term_room.specs.NodeCodes.{low}
use Rattle.sv_term_room.proofs.code.low_bits.Goals as goal

pub returns : goal.returns
unfolding low
returns c = grind arith
