use Rattle.std.proofs.Common.{arith}
use Rattle.sv_core.proofs.LabelLemmas.{copied_next, copied_all}
use Rattle.sv_core.proofs.copies.+copy_expr.Goals as goal

pub copy_boxed-returns-in_err-copy_expr : goal.copy_boxed-returns-in_err-copy_expr
copy_boxed-returns-in_err-copy_expr t c = grind arith

pub copy_boxed-returns-in_err-new : goal.copy_boxed-returns-in_err-new
copy_boxed-returns-in_err-new t c = grind arith

pub copy_boxed-returns : goal.copy_boxed-returns
copy_boxed-returns t c = grind arith

pub copy_expr-returns-in_err-copy_kind : goal.copy_expr-returns-in_err-copy_kind
copy_expr-returns-in_err-copy_kind t c = grind arith

pub copy_expr-returns : goal.copy_expr-returns
copy_expr-returns t c = grind arith

pub copy_exprs-returns-in_err-copy_expr : goal.copy_exprs-returns-in_err-copy_expr
copy_exprs-returns-in_err-copy_expr t c = grind arith

pub copy_exprs-returns-in_err-push : goal.copy_exprs-returns-in_err-push
copy_exprs-returns-in_err-push t c = grind arith

pub copy_kind-returns-in_err-copy_boxed-in-Field : goal.copy_kind-returns-in_err-copy_boxed-in-Field
copy_kind-returns-in_err-copy_boxed-in-Field t c = grind arith

pub copy_kind-returns-in_err-copy_boxed-in-Length : goal.copy_kind-returns-in_err-copy_boxed-in-Length
copy_kind-returns-in_err-copy_boxed-in-Length t c = grind arith

pub copy_kind-returns-in_err-copy_boxed-in-Unary : goal.copy_kind-returns-in_err-copy_boxed-in-Unary
copy_kind-returns-in_err-copy_boxed-in-Unary t c = grind arith

pub copy_kind-returns-in_err-copy_boxed-in-Convert : goal.copy_kind-returns-in_err-copy_boxed-in-Convert
copy_kind-returns-in_err-copy_boxed-in-Convert t c = grind arith

pub copy_kind-returns-in_err-copy_exprs-in-Call : goal.copy_kind-returns-in_err-copy_exprs-in-Call
copy_kind-returns-in_err-copy_exprs-in-Call t c = grind arith

pub copy_kind-returns-in_err-copy_boxed-in-Pop : goal.copy_kind-returns-in_err-copy_boxed-in-Pop
copy_kind-returns-in_err-copy_boxed-in-Pop t c = grind arith

pub copy_kind-returns-in_err-copy_exprs-in-Make : goal.copy_kind-returns-in_err-copy_exprs-in-Make
copy_kind-returns-in_err-copy_exprs-in-Make t c = grind arith

pub copy_kind-returns-in_err-copy_boxed-in-NewArray : goal.copy_kind-returns-in_err-copy_boxed-in-NewArray
copy_kind-returns-in_err-copy_boxed-in-NewArray t c = grind arith

pub copy_kind-returns-in_err-copy_boxed-in-Copy : goal.copy_kind-returns-in_err-copy_boxed-in-Copy
copy_kind-returns-in_err-copy_boxed-in-Copy t c = grind arith

pub copy_kind-returns-in_err-copy_boxed-in-Old : goal.copy_kind-returns-in_err-copy_boxed-in-Old
copy_kind-returns-in_err-copy_boxed-in-Old t c = grind arith

pub copy_kind-returns-in-Num : goal.copy_kind-returns-in-Num
copy_kind-returns-in-Num t c = grind arith

pub copy_kind-returns-in-Truth : goal.copy_kind-returns-in-Truth
copy_kind-returns-in-Truth t c = grind arith

pub copy_kind-returns-in-Local : goal.copy_kind-returns-in-Local
copy_kind-returns-in-Local t c = grind arith

pub copy_kind-returns-in-State : goal.copy_kind-returns-in-State
copy_kind-returns-in-State t c = grind arith

pub copy_kind-returns-in-Env : goal.copy_kind-returns-in-Env
copy_kind-returns-in-Env t c = grind arith

pub copy_kind-returns-in_ok-copy_boxed-in-Field : goal.copy_kind-returns-in_ok-copy_boxed-in-Field
copy_kind-returns-in_ok-copy_boxed-in-Field t c = grind arith

pub copy_kind-returns-in_ok-copy_boxed-in-Length : goal.copy_kind-returns-in_ok-copy_boxed-in-Length
copy_kind-returns-in_ok-copy_boxed-in-Length t c = grind arith

pub copy_kind-returns-in_ok-copy_boxed-in-Unary : goal.copy_kind-returns-in_ok-copy_boxed-in-Unary
copy_kind-returns-in_ok-copy_boxed-in-Unary t c = grind arith

pub copy_kind-returns-in_ok-copy_boxed-in-Convert : goal.copy_kind-returns-in_ok-copy_boxed-in-Convert
copy_kind-returns-in_ok-copy_boxed-in-Convert t c = grind arith

pub copy_kind-returns-in-Limit : goal.copy_kind-returns-in-Limit
copy_kind-returns-in-Limit t c = grind arith

pub copy_kind-returns-in_ok-copy_exprs-in-Call : goal.copy_kind-returns-in_ok-copy_exprs-in-Call
copy_kind-returns-in_ok-copy_exprs-in-Call t c = grind arith

pub copy_kind-returns-in_ok-copy_boxed-in-Pop : goal.copy_kind-returns-in_ok-copy_boxed-in-Pop
copy_kind-returns-in_ok-copy_boxed-in-Pop t c = grind arith

pub copy_kind-returns-in_ok-copy_exprs-in-Make : goal.copy_kind-returns-in_ok-copy_exprs-in-Make
copy_kind-returns-in_ok-copy_exprs-in-Make t c = grind arith

pub copy_kind-returns-in_ok-copy_boxed-in-NewArray : goal.copy_kind-returns-in_ok-copy_boxed-in-NewArray
copy_kind-returns-in_ok-copy_boxed-in-NewArray t c = grind arith

pub copy_kind-returns-in_ok-copy_boxed-in-Copy : goal.copy_kind-returns-in_ok-copy_boxed-in-Copy
copy_kind-returns-in_ok-copy_boxed-in-Copy t c = grind arith

pub copy_kind-returns-in_ok-copy_boxed-in-Old : goal.copy_kind-returns-in_ok-copy_boxed-in-Old
copy_kind-returns-in_ok-copy_boxed-in-Old t c = grind arith

pub copy_kind-returns-in-Sum : goal.copy_kind-returns-in-Sum
copy_kind-returns-in-Sum t c = grind arith

pub copy_value-returns-in_err-copy_expr-in-Some : goal.copy_value-returns-in_err-copy_expr-in-Some
copy_value-returns-in_err-copy_expr-in-Some t c = grind arith

pub copy_value-returns-in_err-new-in-Some : goal.copy_value-returns-in_err-new-in-Some
copy_value-returns-in_err-new-in-Some t c = grind arith

pub copy_value-returns-in-None : goal.copy_value-returns-in-None
copy_value-returns-in-None t c = grind arith

pub copy_value-returns-in_ok-new-in-Some : goal.copy_value-returns-in_ok-new-in-Some
copy_value-returns-in_ok-new-in-Some t c = grind arith

pub copy_exprs-loop-e-preserved : goal.copy_exprs-loop-e-preserved
copy_exprs-loop-e-preserved t c = copied_next c.as_slice-e-items.result.now c.loop-e.e-index c.e-item.result _ _ _ (omega arith) c.e-item.is c.loop-e.invariant c.in_ok-copy_expr.ensures c.in_ok-push.ensures.ok

pub copy_exprs-returns : goal.copy_exprs-returns
copy_exprs-returns t c = copied_all c.args.es.now c.as_slice-e-items.result.now c.loop-e.e-index c.loop-e.copies c.as_slice-e-items.ensures (omega arith) c.loop-e.invariant
