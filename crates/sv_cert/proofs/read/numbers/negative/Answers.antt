use Rattle.std.proofs.Common.{◌∙◌, ◌≡◌, ◌-◌, sym, ap, arith, Some}
use Rattle.std.proofs.lemmas.Int.{ints}
use lib.IntN.{pos, negsuc, neg_ℤ, ◌-ℤ◌}
use mir.Syntax.{w128}
use mir.Val.{to_z, of_z}
use Rattle.sv_cert.proofs.Readers.{negative_small, negative_is, negative_other, negative_none}
use Rattle.sv_cert.proofs.read.numbers.negative.Goals as goal

pub returns-in-Some : goal.returns-in-Some
returns-in-Some c =
    let n = c.in-Some.size in
    let z : to_z w128 (of_z w128 (negsuc 0 -ℤ to_z w128 (n - 1))) ≡ neg_ℤ (pos n) = omega (arith, ints) in
    ap Some (z ∙ sym (negative_is n (omega arith))) ∙ negative_small c.args.digits.now n c.in-Some.ensures (omega arith) c.if-size.true

pub returns-in-Some-eq0 : goal.returns-in-Some-eq0
returns-in-Some-eq0 c = negative_other c.args.digits.now c.in-Some-eq0.field-0 c.in-Some-eq0.ensures (λ p q. omega arith)

pub returns-in_default : goal.returns-in_default
returns-in_default c = negative_other c.args.digits.now c.in-Some.size c.in-Some.ensures (λ p q. omega arith)

pub returns-in_default-2 : goal.returns-in_default-2
returns-in_default-2 c = negative_none c.args.digits.now (cc)
