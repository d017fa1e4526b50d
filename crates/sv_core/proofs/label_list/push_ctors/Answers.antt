use Rattle.std.proofs.Common.{arith, map}
use Rattle.sv_core.specs.CheckWalk.{after_ctors}
use Rattle.sv_core.specs.PlainCore.{plain_ctor}
use Rattle.sv_core.proofs.Walked.{done_at, ctors_next}
use Rattle.sv_core.proofs.label_list.push_ctors.Goals as goal

pub loop-k-preserved : goal.loop-k-preserved
loop-k-preserved c = ctors_next c.args.tally.now c.args.found.now.items c.as_slice-k-items.result.now c.loop-k.k-index c.k-item.result c.loop-k.found.items _ _ (omega arith) c.k-item.is c.loop-k.invariant c.in_ok-push_given.ensures c.in_ok-push_body.ensures

pub returns : goal.returns
returns c = done_at (λ xs. after_ctors c.args.tally.now (map plain_ctor xs) c.args.found.now.items) c.args.ctors.now c.as_slice-k-items.result.now c.loop-k.k-index c.loop-k.found.items c.as_slice-k-items.ensures (omega arith) c.loop-k.invariant

pub returns-in_err-push_given : goal.returns-in_err-push_given
returns-in_err-push_given c = grind arith

pub returns-in_err-push_body : goal.returns-in_err-push_body
returns-in_err-push_body c = grind arith
