use Rattle.std.proofs.Common.{arith}
use Rattle.sv_core.proofs.LabelLemmas.{copied_next, copied_all}
use Rattle.sv_core.proofs.core_copies.copy_mods.Goals as goal

pub loop-m-preserved : goal.loop-m-preserved
loop-m-preserved c = copied_next c.as_slice-m-items.result.now c.loop-m.m-index c.m-item.result _ _ _ (omega arith) c.m-item.is c.loop-m.invariant c.in_ok-copy_mod.ensures c.in_ok-push.ensures.ok

pub returns : goal.returns
returns c = copied_all c.args.mods.now c.as_slice-m-items.result.now c.loop-m.m-index c.loop-m.copies c.as_slice-m-items.ensures (omega arith) c.loop-m.invariant

pub returns-in_err-copy_mod : goal.returns-in_err-copy_mod
returns-in_err-copy_mod c = grind arith

pub returns-in_err-push : goal.returns-in_err-push
returns-in_err-push c = grind arith
