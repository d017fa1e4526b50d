use Rattle.std.proofs.Common.{arith}
use Rattle.sv_core.proofs.tally.push_numbered.Goals as goal

pub returns-in_err-push : goal.returns-in_err-push
returns-in_err-push c = grind arith
