use Rattle.std.proofs.Common.{arith}
use Rattle.sv_parse_unit.proofs.parse.read_unit.Goals as goal

pub parse-requires : goal.parse-requires
parse-requires c = record { nests = tt; behind = omega arith }

pub returns : goal.returns
returns c = c.parse.ensures
