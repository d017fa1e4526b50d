use Rattle.std.proofs.Common.{arith}
use Rattle.sv_core.proofs.LabelLemmas.{copied_all}
use Rattle.sv_core.proofs.core_copies.copy_vars.Goals as goal

pub returns-in_err-copy_init : goal.returns-in_err-copy_init
returns-in_err-copy_init c = grind arith

pub returns-in_err-push : goal.returns-in_err-push
returns-in_err-push c = grind arith

pub returns : goal.returns
returns c = copied_all c.args.vars.now c.as_slice-v-items.result.now c.loop-v.v-index c.loop-v.copies c.as_slice-v-items.ensures (omega arith) c.loop-v.invariant
