use Rattle.std.proofs.Common.{arith}
use Rattle.sv_core.proofs.tally.Tally.of.Goals as goal

pub returns-in_err-invariants : goal.returns-in_err-invariants
returns-in_err-invariants c = grind arith

pub returns-in_err-of : goal.returns-in_err-of
returns-in_err-of c = grind arith

pub returns-in_err-push : goal.returns-in_err-push
returns-in_err-push c = grind arith
