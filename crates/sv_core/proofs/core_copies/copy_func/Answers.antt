use Rattle.std.proofs.Common.{arith}
use Rattle.sv_core.proofs.core_copies.copy_func.Goals as goal

pub returns-in_err-from_slice : goal.returns-in_err-from_slice
returns-in_err-from_slice c = grind arith

pub returns-in_err-copy_uses : goal.returns-in_err-copy_uses
returns-in_err-copy_uses c = grind arith

pub returns-in_err-copy_exprs : goal.returns-in_err-copy_exprs
returns-in_err-copy_exprs c = grind arith

pub returns-in_err-copy_exprs-2 : goal.returns-in_err-copy_exprs-2
returns-in_err-copy_exprs-2 c = grind arith

pub returns-in_err-copy_body : goal.returns-in_err-copy_body
returns-in_err-copy_body c = grind arith

pub returns : goal.returns
returns c = grind arith
