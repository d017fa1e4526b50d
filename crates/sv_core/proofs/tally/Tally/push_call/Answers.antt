use Rattle.std.proofs.Common.{arith}
use Rattle.sv_core.proofs.tally.Tally.push_call.Goals as goal

pub returns-in_err-push_numbered : goal.returns-in_err-push_numbered
returns-in_err-push_numbered c = grind arith

pub returns-in_err-push_numbered-2 : goal.returns-in_err-push_numbered-2
returns-in_err-push_numbered-2 c = grind arith
