use Rattle.std.proofs.Common.{arith, map}
use Rattle.sv_core.specs.CheckWalk.{after_all}
use Rattle.sv_core.specs.PlainCode.{exprs, plain_expr}
use Rattle.sv_core.proofs.Walked.{done_at, all_next}
use Rattle.sv_core.proofs.expr_checks.+expr_checks.Goals as goal

pub push_exprs-loop-e-preserved : goal.push_exprs-loop-e-preserved
push_exprs-loop-e-preserved t c = all_next c.args.tally.now c.args.found.now.items c.as_slice-e-items.result.now c.loop-e.e-index c.e-item.result c.loop-e.found.items _ (omega arith) c.e-item.is c.loop-e.invariant c.in_ok-push_expr.ensures

pub push_exprs-returns : goal.push_exprs-returns
push_exprs-returns t c = done_at (λ xs. after_all c.args.tally.now (exprs (map plain_expr xs)) c.args.found.now.items) c.args.es.now c.as_slice-e-items.result.now c.loop-e.e-index c.loop-e.found.items c.as_slice-e-items.ensures (omega arith) c.loop-e.invariant

pub push_exprs-returns-in_err-push_expr : goal.push_exprs-returns-in_err-push_expr
push_exprs-returns-in_err-push_expr t c = grind arith

pub push_kind-returns-in_err-push_expr-in-Index : goal.push_kind-returns-in_err-push_expr-in-Index
push_kind-returns-in_err-push_expr-in-Index t c = grind arith

pub push_kind-returns-in_err-push_expr-in-Binary : goal.push_kind-returns-in_err-push_expr-in-Binary
push_kind-returns-in_err-push_expr-in-Binary t c = grind arith

pub push_kind-returns-in_err-push_expr-in-Cond : goal.push_kind-returns-in_err-push_expr-in-Cond
push_kind-returns-in_err-push_expr-in-Cond t c = grind arith

pub push_kind-returns-in_err-push_expr-in-Cond-2 : goal.push_kind-returns-in_err-push_expr-in-Cond-2
push_kind-returns-in_err-push_expr-in-Cond-2 t c = grind arith

pub push_kind-returns-in_err-push_call-in-Call : goal.push_kind-returns-in_err-push_call-in-Call
push_kind-returns-in_err-push_call-in-Call t c = grind arith

pub push_kind-returns-in_err-push_numbered-in-Outside : goal.push_kind-returns-in_err-push_numbered-in-Outside
push_kind-returns-in_err-push_numbered-in-Outside t c = grind arith

pub push_kind-returns-in_err-push_expr-in-Outside : goal.push_kind-returns-in_err-push_expr-in-Outside
push_kind-returns-in_err-push_expr-in-Outside t c = grind arith

pub push_kind-returns-in_err-push_maybe-in-Outside : goal.push_kind-returns-in_err-push_maybe-in-Outside
push_kind-returns-in_err-push_maybe-in-Outside t c = grind arith

pub push_kind-returns-in_err-push_expr-in-Push : goal.push_kind-returns-in_err-push_expr-in-Push
push_kind-returns-in_err-push_expr-in-Push t c = grind arith
