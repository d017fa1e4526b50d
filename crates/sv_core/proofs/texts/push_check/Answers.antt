use Rattle.std.proofs.Common.{arith}
use Rattle.sv_core.proofs.texts.push_check.Goals as goal

pub returns-in_err-extend_from_slice-in-4 : goal.returns-in_err-extend_from_slice-in-4
returns-in_err-extend_from_slice-in-4 c = grind arith
