use Rattle.std.proofs.Common.{arith}
use Rattle.sv_core.proofs.core_copies.copy_init.Goals as goal

pub returns-in_err-copy_expr-in-Some : goal.returns-in_err-copy_expr-in-Some
returns-in_err-copy_expr-in-Some c = grind arith

pub returns-in-None : goal.returns-in-None
returns-in-None c = grind arith

pub returns-in_ok-copy_expr-in-Some : goal.returns-in_ok-copy_expr-in-Some
returns-in_ok-copy_expr-in-Some c = grind arith
