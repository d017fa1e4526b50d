use Rattle.std.proofs.Common.{true, ◌≡◌, rules, arith}
use Rattle.std.proofs.lemmas.Int.{ints}
use lib.IntN.{pos}
use lib.Signed.{◌<ℤ◌}
use Rattle.sv_lin_cases.proofs.NormalRowTests.{can_be_combined}
use Rattle.sv_lin_cases.proofs.check.can_cancel.Goals as goal

pub returns : goal.returns
returns c t j k =
    let first : c.is_normal.result ≡ true = search rules in
    let a : pos 0 <ℤ c.in-Some-Some.field-0-0-0.now.0 = search rules in
    let b : c.in-Some-Some.field-0-0-1.now.0 <ℤ pos 0 = search rules in
    can_be_combined c.args.own.now c.args.other.now c.in-Some-Some.field-0-1-0.now c.in-Some-Some.field-0-1-1.now c.in-Some-Some.field-0-0-0.now c.in-Some-Some.field-0-0-1.now j k
    c.in-Some-Some.ensures.cases.0 c.in-Some-Some.ensures'.cases.0 c.if-x-y.false a b (c.is_normal.ensures first) (c.is_normal-2.ensures t)
