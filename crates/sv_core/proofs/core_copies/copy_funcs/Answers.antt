use Rattle.std.proofs.Common.{arith}
use Rattle.sv_core.proofs.LabelLemmas.{copied_next, copied_all}
use Rattle.sv_core.proofs.core_copies.copy_funcs.Goals as goal

pub loop-f-preserved : goal.loop-f-preserved
loop-f-preserved c = copied_next c.as_slice-f-items.result.now c.loop-f.f-index c.f-item.result _ _ _ (omega arith) c.f-item.is c.loop-f.invariant c.in_ok-copy_func.ensures c.in_ok-push.ensures.ok

pub returns : goal.returns
returns c = copied_all c.args.funcs.now c.as_slice-f-items.result.now c.loop-f.f-index c.loop-f.copies c.as_slice-f-items.ensures (omega arith) c.loop-f.invariant

pub returns-in_err-copy_func : goal.returns-in_err-copy_func
returns-in_err-copy_func c = grind arith

pub returns-in_err-push : goal.returns-in_err-push
returns-in_err-push c = grind arith
