use Rattle.std.proofs.Common.{arith}
use Rattle.sv_vc_cases.proofs.formed.names_one.Goals as goal

pub returns : goal.returns
returns c h = record { variable = omega arith; one = c.variable_at.result; at = c.variable_at.ensures; sort_is = c.is_same.ensures h }
