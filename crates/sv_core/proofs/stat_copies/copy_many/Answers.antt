use Rattle.std.proofs.Common.{arith}
use Rattle.sv_core.proofs.stat_copies.copy_many.Goals as goal

pub returns-in_err-from_slice : goal.returns-in_err-from_slice
returns-in_err-from_slice c = grind arith

pub returns-in_err-copy_expr : goal.returns-in_err-copy_expr
returns-in_err-copy_expr c = grind arith

pub returns : goal.returns
returns c = grind arith
