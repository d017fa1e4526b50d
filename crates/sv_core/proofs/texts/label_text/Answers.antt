use Rattle.std.proofs.Common.{arith}
use Rattle.sv_core.proofs.texts.label_text.Goals as goal

pub returns-in_err-push_check : goal.returns-in_err-push_check
returns-in_err-push_check c = grind arith

pub returns-in_err-push_site : goal.returns-in_err-push_site
returns-in_err-push_site c = grind arith
