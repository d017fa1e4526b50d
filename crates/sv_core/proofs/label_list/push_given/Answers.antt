use Rattle.std.proofs.Common.{arith, map}
use Rattle.sv_core.specs.CheckWalk.{after_given}
use Rattle.sv_core.specs.PlainCore.{plain_given}
use Rattle.sv_core.proofs.Walked.{done_at, given_next}
use Rattle.sv_core.proofs.label_list.push_given.Goals as goal

pub loop-g-preserved : goal.loop-g-preserved
loop-g-preserved c = given_next c.args.tally.now c.args.found.now.items c.as_slice-g-items.result.now c.loop-g.g-index c.g-item.result c.loop-g.found.items _ (omega arith) c.g-item.is c.loop-g.invariant c.in_ok-push_exprs.ensures

pub returns : goal.returns
returns c = done_at (λ xs. after_given c.args.tally.now (map plain_given xs) c.args.found.now.items) c.args.given.now c.as_slice-g-items.result.now c.loop-g.g-index c.loop-g.found.items c.as_slice-g-items.ensures (omega arith) c.loop-g.invariant

pub returns-in_err-push_exprs : goal.returns-in_err-push_exprs
returns-in_err-push_exprs c = grind arith
