use Rattle.std.proofs.Common.{arith}
use Rattle.sv_core.proofs.LabelLemmas.{copied_next, copied_all}
use Rattle.sv_core.proofs.core_copies.copy_ctors.Goals as goal

pub loop-k-preserved : goal.loop-k-preserved
loop-k-preserved c = copied_next c.as_slice-k-items.result.now c.loop-k.k-index c.k-item.result _ _ _ (omega arith) c.k-item.is c.loop-k.invariant c.in_ok-copy_ctor.ensures c.in_ok-push.ensures.ok

pub returns : goal.returns
returns c = copied_all c.args.ctors.now c.as_slice-k-items.result.now c.loop-k.k-index c.loop-k.copies c.as_slice-k-items.ensures (omega arith) c.loop-k.invariant

pub returns-in_err-copy_ctor : goal.returns-in_err-copy_ctor
returns-in_err-copy_ctor c = grind arith

pub returns-in_err-push : goal.returns-in_err-push
returns-in_err-push c = grind arith
