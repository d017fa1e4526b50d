use Rattle.std.proofs.Common.{arith}
use Rattle.sv_core.proofs.LabelLemmas.{copied_all}
use Rattle.sv_core.proofs.core_copies.copy_given.Goals as goal

pub returns-in_err-copy_exprs : goal.returns-in_err-copy_exprs
returns-in_err-copy_exprs c = grind arith

pub returns-in_err-push : goal.returns-in_err-push
returns-in_err-push c = grind arith

pub returns : goal.returns
returns c = copied_all c.args.given.now c.as_slice-g-items.result.now c.loop-g.g-index c.loop-g.copies c.as_slice-g-items.ensures (omega arith) c.loop-g.invariant
