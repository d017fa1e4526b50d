use Rattle.std.proofs.Common.{arith, map}
use Rattle.sv_core.specs.CheckWalk.{after_body, after_arms}
use Rattle.sv_core.specs.PlainCode.{stmts, arms, plain_stat, plain_arm}
use Rattle.sv_core.proofs.Walked.{done_at, body_next, arms_next}
use Rattle.sv_core.proofs.stat_checks.+stat_checks.Goals as goal

pub push_body-loop-s-preserved : goal.push_body-loop-s-preserved
push_body-loop-s-preserved t c = body_next c.args.tally.now c.args.found.now.items c.as_slice-s-items.result.now c.loop-s.s-index c.s-item.result c.loop-s.found.items _ (omega arith) c.s-item.is c.loop-s.invariant c.in_ok-push_stat.ensures

pub push_body-returns : goal.push_body-returns
push_body-returns t c = done_at (λ xs. after_body c.args.tally.now (stmts (map plain_stat xs)) c.args.found.now.items) c.args.body.now c.as_slice-s-items.result.now c.loop-s.s-index c.loop-s.found.items c.as_slice-s-items.ensures (omega arith) c.loop-s.invariant

pub push_arms-loop-arm-preserved : goal.push_arms-loop-arm-preserved
push_arms-loop-arm-preserved t c = arms_next c.args.tally.now c.args.found.now.items c.as_slice-arm-items.result.now c.loop-arm.arm-index c.arm-item.result c.loop-arm.found.items _ (omega arith) c.arm-item.is c.loop-arm.invariant c.in_ok-push_arm.ensures

pub push_arms-returns : goal.push_arms-returns
push_arms-returns t c = done_at (λ xs. after_arms c.args.tally.now (arms (map plain_arm xs)) c.args.found.now.items) c.args.list.now c.as_slice-arm-items.result.now c.loop-arm.arm-index c.loop-arm.found.items c.as_slice-arm-items.ensures (omega arith) c.loop-arm.invariant

pub push_act-returns-in_err-push_expr-in-Set : goal.push_act-returns-in_err-push_expr-in-Set
push_act-returns-in_err-push_expr-in-Set t c = grind arith

pub push_act-returns-in_err-push_expr-in-Update : goal.push_act-returns-in_err-push_expr-in-Update
push_act-returns-in_err-push_expr-in-Update t c = grind arith

pub push_act-returns-in_err-push_arms-in-If : goal.push_act-returns-in_err-push_arms-in-If
push_act-returns-in_err-push_arms-in-If t c = grind arith

pub push_act-returns-in_err-count-in-Loop : goal.push_act-returns-in_err-count-in-Loop
push_act-returns-in_err-count-in-Loop t c = grind arith

pub push_act-returns-in_err-push_loop-in-Loop : goal.push_act-returns-in_err-push_loop-in-Loop
push_act-returns-in_err-push_loop-in-Loop t c = grind arith

pub push_act-returns-in_err-push_expr-in-Loop : goal.push_act-returns-in_err-push_expr-in-Loop
push_act-returns-in_err-push_expr-in-Loop t c = grind arith

pub push_act-returns-in_err-push_body-in-Loop : goal.push_act-returns-in_err-push_body-in-Loop
push_act-returns-in_err-push_body-in-Loop t c = grind arith

pub push_act-returns-in_err-push-in-Assert : goal.push_act-returns-in_err-push-in-Assert
push_act-returns-in_err-push-in-Assert t c = grind arith

pub push_arm-returns-in_err-push_expr : goal.push_arm-returns-in_err-push_expr
push_arm-returns-in_err-push_expr t c = grind arith

pub push_arms-returns-in_err-push_arm : goal.push_arms-returns-in_err-push_arm
push_arms-returns-in_err-push_arm t c = grind arith

pub push_body-returns-in_err-push_stat : goal.push_body-returns-in_err-push_stat
push_body-returns-in_err-push_stat t c = grind arith
