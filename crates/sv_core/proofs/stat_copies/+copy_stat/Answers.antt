use Rattle.std.proofs.Common.{arith}
use Rattle.sv_core.proofs.LabelLemmas.{copied_next, copied_all}
use Rattle.sv_core.proofs.stat_copies.+copy_stat.Goals as goal

pub copy_act-returns-in_err-copy_expr-in-Delete : goal.copy_act-returns-in_err-copy_expr-in-Delete
copy_act-returns-in_err-copy_expr-in-Delete t c = grind arith

pub copy_act-returns-in_err-copy_expr-in-Do : goal.copy_act-returns-in_err-copy_expr-in-Do
copy_act-returns-in_err-copy_expr-in-Do t c = grind arith

pub copy_act-returns-in_err-copy_exprs-in-Return : goal.copy_act-returns-in_err-copy_exprs-in-Return
copy_act-returns-in_err-copy_exprs-in-Return t c = grind arith

pub copy_act-returns-in_err-copy_expr-in-Require : goal.copy_act-returns-in_err-copy_expr-in-Require
copy_act-returns-in_err-copy_expr-in-Require t c = grind arith

pub copy_act-returns-in_err-copy_expr-in-Assert : goal.copy_act-returns-in_err-copy_expr-in-Assert
copy_act-returns-in_err-copy_expr-in-Assert t c = grind arith

pub copy_act-returns-in_err-copy_exprs-in-Revert : goal.copy_act-returns-in_err-copy_exprs-in-Revert
copy_act-returns-in_err-copy_exprs-in-Revert t c = grind arith

pub copy_act-returns-in_err-copy_exprs-in-Emit : goal.copy_act-returns-in_err-copy_exprs-in-Emit
copy_act-returns-in_err-copy_exprs-in-Emit t c = grind arith

pub copy_act-returns-in_err-copy_body-in-Frame : goal.copy_act-returns-in_err-copy_body-in-Frame
copy_act-returns-in_err-copy_body-in-Frame t c = grind arith

pub copy_act-returns-in-Set : goal.copy_act-returns-in-Set
copy_act-returns-in-Set t c = grind arith

pub copy_act-returns-in-Update : goal.copy_act-returns-in-Update
copy_act-returns-in-Update t c = grind arith

pub copy_act-returns-in_ok-copy_expr-in-Delete : goal.copy_act-returns-in_ok-copy_expr-in-Delete
copy_act-returns-in_ok-copy_expr-in-Delete t c = grind arith

pub copy_act-returns-in_ok-copy_expr-in-Do : goal.copy_act-returns-in_ok-copy_expr-in-Do
copy_act-returns-in_ok-copy_expr-in-Do t c = grind arith

pub copy_act-returns-in-Many : goal.copy_act-returns-in-Many
copy_act-returns-in-Many t c = grind arith

pub copy_act-returns-in-Break : goal.copy_act-returns-in-Break
copy_act-returns-in-Break t c = grind arith

pub copy_act-returns-in-Continue : goal.copy_act-returns-in-Continue
copy_act-returns-in-Continue t c = grind arith

pub copy_act-returns-in_ok-copy_exprs-in-Return : goal.copy_act-returns-in_ok-copy_exprs-in-Return
copy_act-returns-in_ok-copy_exprs-in-Return t c = grind arith

pub copy_act-returns-in_ok-copy_expr-in-Require : goal.copy_act-returns-in_ok-copy_expr-in-Require
copy_act-returns-in_ok-copy_expr-in-Require t c = grind arith

pub copy_act-returns-in_ok-copy_expr-in-Assert : goal.copy_act-returns-in_ok-copy_expr-in-Assert
copy_act-returns-in_ok-copy_expr-in-Assert t c = grind arith

pub copy_act-returns-in_ok-copy_exprs-in-Revert : goal.copy_act-returns-in_ok-copy_exprs-in-Revert
copy_act-returns-in_ok-copy_exprs-in-Revert t c = grind arith

pub copy_act-returns-in_ok-copy_exprs-in-Emit : goal.copy_act-returns-in_ok-copy_exprs-in-Emit
copy_act-returns-in_ok-copy_exprs-in-Emit t c = grind arith

pub copy_act-returns-in-Rest : goal.copy_act-returns-in-Rest
copy_act-returns-in-Rest t c = grind arith

pub copy_act-returns-in_ok-copy_body-in-Frame : goal.copy_act-returns-in_ok-copy_body-in-Frame
copy_act-returns-in_ok-copy_body-in-Frame t c = grind arith

pub copy_arm-returns-in_err-test : goal.copy_arm-returns-in_err-test
copy_arm-returns-in_err-test t c = grind arith

pub copy_arm-returns-in_err-body : goal.copy_arm-returns-in_err-body
copy_arm-returns-in_err-body t c = grind arith

pub copy_arms-returns-in_err-copy_arm : goal.copy_arms-returns-in_err-copy_arm
copy_arms-returns-in_err-copy_arm t c = grind arith

pub copy_arms-returns-in_err-push : goal.copy_arms-returns-in_err-push
copy_arms-returns-in_err-push t c = grind arith

pub copy_body-returns-in_err-copy_stat : goal.copy_body-returns-in_err-copy_stat
copy_body-returns-in_err-copy_stat t c = grind arith

pub copy_body-returns-in_err-push : goal.copy_body-returns-in_err-push
copy_body-returns-in_err-push t c = grind arith

pub copy_stat-returns-in_err-copy_act : goal.copy_stat-returns-in_err-copy_act
copy_stat-returns-in_err-copy_act t c = grind arith

pub copy_stat-returns : goal.copy_stat-returns
copy_stat-returns t c = grind arith

pub copy_body-loop-s-preserved : goal.copy_body-loop-s-preserved
copy_body-loop-s-preserved t c = copied_next c.as_slice-s-items.result.now c.loop-s.s-index c.s-item.result _ _ _ (omega arith) c.s-item.is c.loop-s.invariant c.in_ok-copy_stat.ensures c.in_ok-push.ensures.ok

pub copy_body-returns : goal.copy_body-returns
copy_body-returns t c = copied_all c.args.body.now c.as_slice-s-items.result.now c.loop-s.s-index c.loop-s.copies c.as_slice-s-items.ensures (omega arith) c.loop-s.invariant

pub copy_arms-loop-arm-preserved : goal.copy_arms-loop-arm-preserved
copy_arms-loop-arm-preserved t c = copied_next c.as_slice-arm-items.result.now c.loop-arm.arm-index c.arm-item.result _ _ _ (omega arith) c.arm-item.is c.loop-arm.invariant c.in_ok-copy_arm.ensures c.in_ok-push.ensures.ok

pub copy_arms-returns : goal.copy_arms-returns
copy_arms-returns t c = copied_all c.args.arms.now c.as_slice-arm-items.result.now c.loop-arm.arm-index c.loop-arm.copies c.as_slice-arm-items.ensures (omega arith) c.loop-arm.invariant
