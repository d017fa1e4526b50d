use Rattle.std.proofs.Common.{arith, map}
use Rattle.sv_core.specs.CheckWalk.{after_uses}
use Rattle.sv_core.specs.PlainCore.{plain_mod, plain_use}
use Rattle.sv_core.proofs.Walked.{done_at, uses_next}
use Rattle.sv_core.proofs.label_list.push_uses.Goals as goal

pub loop-u-preserved : goal.loop-u-preserved
loop-u-preserved c = uses_next c.args.tally.now (map plain_mod c.args.mods.now) c.args.found.now.items c.as_slice-u-items.result.now c.loop-u.u-index c.u-item.result c.loop-u.found.items _ _ (omega arith) c.u-item.is c.loop-u.invariant c.in_ok-push_exprs.ensures c.in_ok-push_modifier.ensures

pub returns : goal.returns
returns c = done_at (λ xs. after_uses c.args.tally.now (map plain_mod c.args.mods.now) (map plain_use xs) c.args.found.now.items) c.args.uses.now c.as_slice-u-items.result.now c.loop-u.u-index c.loop-u.found.items c.as_slice-u-items.ensures (omega arith) c.loop-u.invariant

pub returns-in_err-push_exprs : goal.returns-in_err-push_exprs
returns-in_err-push_exprs c = grind arith

pub returns-in_err-push_modifier : goal.returns-in_err-push_modifier
returns-in_err-push_modifier c = grind arith
