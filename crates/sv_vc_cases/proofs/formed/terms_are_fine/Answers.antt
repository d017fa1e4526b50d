use Rattle.std.proofs.Common.{◌≡◌, true, refl, arith, rules}
use Rattle.sv_vc_cases.proofs.FormedTests.{fine_more}
use Rattle.sv_vc_cases.proofs.formed.terms_are_fine.Goals as goal

pub loop-i-init : goal.loop-i-init
loop-i-init c k h = absurd (omega (arith, h))

pub loop-i-preserved : goal.loop-i-preserved
loop-i-preserved c = fine_more c.args.bank.now c.args.vars.now c.loop-i.i record { 0 = c.loop-i.i } c.node_of.result.now refl c.node_of.ensures.placed (c.is_one_of.ensures (let b : c.is_one_of.result ≡ true = search rules in b)) c.loop-i.invariant

pub returns : goal.returns
returns c h k l = c.loop-i.invariant k (omega (arith, l))
