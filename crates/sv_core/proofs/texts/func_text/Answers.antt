use Rattle.std.proofs.Common.{arith}
use Rattle.sv_core.proofs.texts.func_text.Goals as goal

pub returns-in_err-extend_from_slice-in-Constructor : goal.returns-in_err-extend_from_slice-in-Constructor
returns-in_err-extend_from_slice-in-Constructor c = grind arith

pub returns-in_err-extend_from_slice-in-Constructor-2 : goal.returns-in_err-extend_from_slice-in-Constructor-2
returns-in_err-extend_from_slice-in-Constructor-2 c = grind arith

pub returns-in_err-extend_from_slice-in-Function : goal.returns-in_err-extend_from_slice-in-Function
returns-in_err-extend_from_slice-in-Function c = grind arith

pub returns-in_err-extend_from_slice-in-Function-2 : goal.returns-in_err-extend_from_slice-in-Function-2
returns-in_err-extend_from_slice-in-Function-2 c = grind arith

pub returns-in_err-push_function-in-Function : goal.returns-in_err-push_function-in-Function
returns-in_err-push_function-in-Function c = grind arith

pub returns-in_err-extend_from_slice-in-Gift : goal.returns-in_err-extend_from_slice-in-Gift
returns-in_err-extend_from_slice-in-Gift c = grind arith

pub returns-in_err-extend_from_slice-in-Gift-2 : goal.returns-in_err-extend_from_slice-in-Gift-2
returns-in_err-extend_from_slice-in-Gift-2 c = grind arith
