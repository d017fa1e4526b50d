use Rattle.std.proofs.Common.{◌≡◌, true, rules}
use Rattle.sv_vc_cases.proofs.FormedTests.{settled_more, none_settled}
use Rattle.sv_vc_cases.proofs.formed.+settled.Goals as goal

pub are_settled-loop-cmd-init : goal.are_settled-loop-cmd-init
are_settled-loop-cmd-init t c h = h

pub are_settled-loop-cmd-preserved : goal.are_settled-loop-cmd-preserved
are_settled-loop-cmd-preserved t c h = c.loop-cmd.invariant (settled_more c.args.bank.now c.args.vars.now c.args.cmds.now c.loop-cmd.cmd-index c.cmd-item.result c.loop-cmd-test.true c.cmd-item.is (c.is_settled.ensures (let b : c.is_settled.result ≡ true = search rules in b)) h)

pub are_settled-returns : goal.are_settled-returns
are_settled-returns t c h = c.loop-cmd.invariant (none_settled c.args.bank.now c.args.vars.now c.args.cmds.now c.loop-cmd.cmd-index c.loop-cmd-test.false)
