use Rattle.std.proofs.Common.{arith}
use Rattle.sv_core.proofs.core_copies.copy_mod.Goals as goal

pub returns-in_err-from_slice : goal.returns-in_err-from_slice
returns-in_err-from_slice c = grind arith

pub returns-in_err-copy_body : goal.returns-in_err-copy_body
returns-in_err-copy_body c = grind arith

pub returns : goal.returns
returns c = grind arith
