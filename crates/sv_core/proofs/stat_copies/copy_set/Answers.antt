use Rattle.std.proofs.Common.{arith}
use Rattle.sv_core.proofs.stat_copies.copy_set.Goals as goal

pub returns-in_err-copy_expr : goal.returns-in_err-copy_expr
returns-in_err-copy_expr c = grind arith

pub returns-in_err-copy_expr-2 : goal.returns-in_err-copy_expr-2
returns-in_err-copy_expr-2 c = grind arith

pub returns : goal.returns
returns c = grind arith
