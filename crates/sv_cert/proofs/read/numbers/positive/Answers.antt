use Rattle.std.proofs.Common.{◌∙◌, ap, arith, Some}
use Rattle.std.proofs.lemmas.Int.{ints}
use Rattle.sv_cert.proofs.Readers.{positive_small, positive_large, positive_none}
use Rattle.sv_cert.proofs.read.numbers.positive.Goals as goal

pub returns-in-Some : goal.returns-in-Some
returns-in-Some c = ap Some (omega (arith, ints)) ∙ positive_small c.args.digits.now c.in-Some.size c.in-Some.ensures c.if-size.true

pub returns-in_default : goal.returns-in_default
returns-in_default c = positive_large c.args.digits.now c.in-Some.size c.in-Some.ensures (λ h. omega arith)

pub returns-in_default-2 : goal.returns-in_default-2
returns-in_default-2 c = positive_none c.args.digits.now c.in_default.ensures
