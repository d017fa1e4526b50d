use Rattle.std.proofs.Common.{arith}
use Rattle.sv_core.proofs.label_list.push_ends.Goals as goal

pub returns-in_err-post : goal.returns-in_err-post
returns-in_err-post c = grind arith

pub returns-in_err-push_end : goal.returns-in_err-push_end
returns-in_err-push_end c = grind arith
