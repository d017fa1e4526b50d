use Rattle.sv_core.specs.PlainCore.{plain_core}
use Rattle.sv_core.proofs.Walked.{checked}
use Rattle.std.proofs.Common.{arith}
use Rattle.sv_core.proofs.label_list.checks.Goals as goal

pub returns : goal.returns
returns c = checked (plain_core c.args.core.now) c.args.f _ _ _ c.in_ok-tally.ensures c.new-found.ensures.items c.in_ok-push_checks.ensures

pub returns-in_err-tally : goal.returns-in_err-tally
returns-in_err-tally c = grind arith

pub returns-in_err-push_checks : goal.returns-in_err-push_checks
returns-in_err-push_checks c = grind arith
