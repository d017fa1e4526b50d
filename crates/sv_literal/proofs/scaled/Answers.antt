use Rattle.std.proofs.Common.{◌≡◌, ◌<◌, ◌*◌, ◌^◌, ◌-◌, ap, sym, ◌∙◌, subst, arith}
use Rattle.sv_literal.proofs.Worths.{tens_step, tens_wide, tens_done}
use Rattle.sv_literal.proofs.scaled.Goals as goal

pub returns-in_default : goal.returns-in_default
returns-in_default c = tens_wide c.loop-left.scaled c.loop-left.left (c.args.n * 10 ^ c.args.tens) (2 ^ 128) c.loop-left-test.true c.in_default.ensures c.loop-left.invariant.0

pub loop-left-preserved : goal.loop-left-preserved
loop-left-preserved c = (ap (λ x. x * 10 ^ (c.loop-left.left - 1)) c.in-Some.ensures.1 ∙ tens_step c.loop-left.scaled c.loop-left.left c.loop-left-test.true ∙ c.loop-left.invariant.0, subst (λ x. x < 2 ^ 128) (sym c.in-Some.ensures.1) c.in-Some.ensures.0)

pub returns : goal.returns
returns c =
    let is = tens_done c.loop-left.scaled c.loop-left.left (c.args.n * 10 ^ c.args.tens) c.loop-left-test.false c.loop-left.invariant.0 in
    (subst (λ x. x < 2 ^ 128) is c.loop-left.invariant.1, is)
