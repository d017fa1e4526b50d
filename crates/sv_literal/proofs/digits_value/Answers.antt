use Rattle.std.proofs.Common.{◌≡◌, ◌<◌, ◌*◌, ◌^◌, subst, arith}
use Rattle.sv_literal.proofs.Worths.{wide_at, all_read}
use Rattle.sv_literal.proofs.digits_value.Goals as goal

pub returns-in_default : goal.returns-in_default
returns-in_default c = wide_at c.args.base c.loop-b.n (2 ^ 128) c.loop-b.b-index c.args.text.now c.requires c.loop-b-test.true c.in_default.ensures c.loop-b.invariant.0

pub returns : goal.returns
returns c =
    let is = all_read c.args.base c.loop-b.n c.loop-b.b-index c.args.text.now c.loop-b-test.false c.loop-b.invariant.0 in
    (subst (λ x. x < 2 ^ 128) is c.loop-b.invariant.1, is)
