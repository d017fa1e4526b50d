use Rattle.std.proofs.Common.{◌≡◌, true, rules}
use Rattle.sv_vc_cases.proofs.FormedTests.{sorts_more, no_sorts}
use Rattle.sv_vc_cases.proofs.formed.sorts_are_there.Goals as goal

pub loop-var-init : goal.loop-var-init
loop-var-init c h = h

pub loop-var-preserved : goal.loop-var-preserved
loop-var-preserved c h = c.loop-var.invariant (sorts_more c.args.bank.now c.args.vars.now c.loop-var.var-index c.var-item.result c.loop-var-test.true c.var-item.is (c.fits.ensures.0 (let b : c.fits.result ≡ true = search rules in b)) h)

pub returns : goal.returns
returns c h = c.loop-var.invariant (no_sorts c.args.bank.now c.args.vars.now c.loop-var.var-index c.loop-var-test.false)
