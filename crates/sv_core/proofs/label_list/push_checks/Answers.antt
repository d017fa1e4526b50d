use Rattle.std.proofs.Common.{arith}
use Rattle.sv_core.proofs.label_list.push_checks.Goals as goal

pub returns-in_err-push_ctors-in-Constructor : goal.returns-in_err-push_ctors-in-Constructor
returns-in_err-push_ctors-in-Constructor c = grind arith
