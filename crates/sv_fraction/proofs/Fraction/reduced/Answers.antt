use Rattle.std.proofs.Common.{◌≡◌, sym, ap, ap₂, ◌∙◌, subst, arith, rules}
use Rattle.std.specs.Prelude.{FitsSigned, unsigned_abs}
use Rattle.std.specs.Int.{IsNonZero, int_div_euclid}
use mir.Syntax.{w128}
use mir.Val.{to_z, of_z}
use Rattle.std.proofs.lemmas.Int.{to_z_pos, to_z-of_z}
use Rattle.sv_fraction.specs.Fractions.{ratio, IsReduced, IsSame}
use Rattle.sv_fraction.proofs.Reducing.{held, result_is, divisor_is}
use Rattle.sv_fraction.proofs.Fraction.reduced.Goals as goal

pub overflow_cast-divisor : goal.overflow_cast-divisor
overflow_cast-divisor c = (divisor_is c.args.under _ _ _ c.requires c.ranges.under (c.unsigned_abs-2.ensures.value ∙ ap unsigned_abs (to_z-of_z w128 c.args.under c.ranges.under)) c.gcd-divisor.ensures).fits

pub div_euclid-requires-clause-nonzero : goal.div_euclid-requires-clause-nonzero
div_euclid-requires-clause-nonzero c =
    let d = divisor_is c.args.under _ _ _ c.requires c.ranges.under (c.unsigned_abs-2.ensures.value ∙ ap unsigned_abs (to_z-of_z w128 c.args.under c.ranges.under)) c.gcd-divisor.ensures in
    subst (IsNonZero w128) (sym (to_z_pos w128 c.gcd-divisor.result d.small)) d.positive

pub div_euclid-requires-clause-no_overflow : goal.div_euclid-requires-clause-no_overflow
div_euclid-requires-clause-no_overflow c =
    let d = divisor_is c.args.under _ _ _ c.requires c.ranges.under (c.unsigned_abs-2.ensures.value ∙ ap unsigned_abs (to_z-of_z w128 c.args.under c.ranges.under)) c.gcd-divisor.ensures in
    let e = ap (of_z w128) (to_z_pos w128 c.gcd-divisor.result d.small) in
    λ x y. omega (arith, d.small, e, x)

pub div_euclid-requires-2-clause-nonzero : goal.div_euclid-requires-2-clause-nonzero
div_euclid-requires-2-clause-nonzero c =
    let d = divisor_is c.args.under _ _ _ c.requires c.ranges.under (c.unsigned_abs-2.ensures.value ∙ ap unsigned_abs (to_z-of_z w128 c.args.under c.ranges.under)) c.gcd-divisor.ensures in
    subst (IsNonZero w128) (sym (to_z_pos w128 c.gcd-divisor.result d.small)) d.positive

are : (c : goal.After-div_euclid-2) → IsReduced (ratio c.div_euclid.result c.div_euclid-2.result) × IsSame (ratio c.div_euclid.result c.div_euclid-2.result) (ratio c.args.top c.args.under)
are c =
    let e = c.unsigned_abs.ensures.value ∙ ap unsigned_abs (to_z-of_z w128 c.args.top c.ranges.top) in
    let f = c.unsigned_abs-2.ensures.value ∙ ap unsigned_abs (to_z-of_z w128 c.args.under c.ranges.under) in
    let d = divisor_is c.args.under _ _ _ c.requires c.ranges.under f c.gcd-divisor.ensures in
    let g = to_z_pos w128 c.gcd-divisor.result d.small in
    result_is c.args.top c.args.under c.div_euclid.result c.div_euclid-2.result c.gcd-divisor.result _ _ c.requires e f c.gcd-divisor.ensures
    (c.div_euclid.ensures ∙ ap₂ int_div_euclid (to_z-of_z w128 c.args.top c.ranges.top) g)
    (c.div_euclid-2.ensures ∙ ap₂ int_div_euclid (to_z-of_z w128 c.args.under c.ranges.under) g)

as_held : (c : goal.After-div_euclid-2) → ratio (to_z w128 (of_z w128 c.div_euclid.result)) (to_z w128 (of_z w128 c.div_euclid-2.result)) ≡ ratio c.div_euclid.result c.div_euclid-2.result
as_held c =
    let f : FitsSigned w128 c.div_euclid.result = search rules in
    let g : FitsSigned w128 c.div_euclid-2.result = search rules in
    held c.div_euclid.result c.div_euclid-2.result f g

pub invariant_of-result : goal.invariant_of-result
invariant_of-result c = subst IsReduced (sym (as_held c)) (are c).0

pub returns-clause-same : goal.returns-clause-same
returns-clause-same c = subst (λ r. IsSame r (ratio c.args.top c.args.under)) (sym (as_held c)) (are c).1

pub returns-clause-lowest : goal.returns-clause-lowest
returns-clause-lowest c = subst IsReduced (sym (as_held c)) (are c).0
