use Rattle.std.proofs.Common.{arith}
use Rattle.sv_core.proofs.core_copies.copy_core.Goals as goal

pub returns-in_err-from_slice : goal.returns-in_err-from_slice
returns-in_err-from_slice c = grind arith

pub returns-in_err-from_slice-2 : goal.returns-in_err-from_slice-2
returns-in_err-from_slice-2 c = grind arith

pub returns-in_err-copy_types : goal.returns-in_err-copy_types
returns-in_err-copy_types c = grind arith

pub returns-in_err-copy_vars : goal.returns-in_err-copy_vars
returns-in_err-copy_vars c = grind arith

pub returns-in_err-copy_ctors : goal.returns-in_err-copy_ctors
returns-in_err-copy_ctors c = grind arith

pub returns-in_err-copy_funcs : goal.returns-in_err-copy_funcs
returns-in_err-copy_funcs c = grind arith

pub returns-in_err-copy_mods : goal.returns-in_err-copy_mods
returns-in_err-copy_mods c = grind arith

pub returns-in_err-copy_exprs : goal.returns-in_err-copy_exprs
returns-in_err-copy_exprs c = grind arith

pub returns : goal.returns
returns c = grind arith
