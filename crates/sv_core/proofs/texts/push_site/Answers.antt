use Rattle.std.proofs.Common.{arith}
use Rattle.sv_core.proofs.texts.push_site.Goals as goal

pub returns-in_err-at-in-At : goal.returns-in_err-at-in-At
returns-in_err-at-in-At c = grind arith

pub returns-in_err-extend_from_slice-in-At : goal.returns-in_err-extend_from_slice-in-At
returns-in_err-extend_from_slice-in-At c = grind arith

pub returns-in_err-extend_from_slice-in-End : goal.returns-in_err-extend_from_slice-in-End
returns-in_err-extend_from_slice-in-End c = grind arith
