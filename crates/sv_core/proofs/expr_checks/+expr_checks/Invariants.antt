use Rattle.std.proofs.Common.{◌≡◌, take, map}
use Rattle.sv_core.specs.PlainCode.{exprs, plain_expr}
use Rattle.sv_core.specs.CheckWalk.{after_all}
use Rattle.sv_core.proofs.expr_checks.+expr_checks.Given as goal

abbrev pub invariant-push_exprs-loop-e : goal.invariant-push_exprs-loop-e
invariant-push_exprs-loop-e l = l.found.items ≡ after_all l.tally (exprs (map plain_expr (take l.e-index l.e-items))) l.initial.found.items
