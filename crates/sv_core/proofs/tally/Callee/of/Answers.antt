use Rattle.std.proofs.Common.{arith}
use Rattle.sv_core.proofs.tally.Callee.of.Goals as goal

pub returns-in_err-pre : goal.returns-in_err-pre
returns-in_err-pre c = grind arith
