use Rattle.std.proofs.Common.{arith}
use Rattle.sv_core.proofs.label_list.push_text.Goals as goal

pub returns-in_err-push_uses : goal.returns-in_err-push_uses
returns-in_err-push_uses c = grind arith

pub returns-in_err-push_body : goal.returns-in_err-push_body
returns-in_err-push_body c = grind arith
