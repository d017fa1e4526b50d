use Rattle.std.proofs.Common.{arith}
use Rattle.sv_core.proofs.tally.Tally.push_loop.Goals as goal

pub returns-in_err-push_numbered : goal.returns-in_err-push_numbered
returns-in_err-push_numbered c = grind arith
