use Rattle.std.proofs.Common.{◌≡◌, ap, ap₂, ◌∙◌, subst, arith, rules, pos, ◌<ℤ◌}
use Rattle.std.specs.Prelude.{FitsSigned, unsigned_abs}
use Rattle.std.specs.Ordering.{MatchOrdering}
use Rattle.std.specs.Int.{int_div_euclid, int_rem_euclid}
use mir.Syntax.{w128}
use mir.Val.{of_z, to_z}
use Rattle.std.proofs.lemmas.Int.{ints, to_z-of_z}
use Rattle.sv_fraction.specs.Fractions.{ratio, IsLess, IsSame}
use Rattle.sv_fraction.proofs.Comparing.{by_quotients, by_rests, cast_is, rest_cast, at_least}
use Rattle.sv_fraction.proofs.Fraction.compare.Goals as goal

pub returns-then-own-others : goal.returns-then-own-others
returns-then-own-others c =
    let t : FitsSigned w128 c.self.inside.top = search rules in
    let u : FitsSigned w128 c.self.inside.under = search rules in
    let v : FitsSigned w128 c.other.inside.top = search rules in
    let w : FitsSigned w128 c.other.inside.under = search rules in
    let h : c.div_euclid-own.result <ℤ c.div_euclid-others.result = grind (arith, ints, to_z-of_z) in
    subst (λ f. IsLess f c.args.other.now) c.self.view_is (subst (λ g. IsLess (ratio c.self.inside.top c.self.inside.under) g) c.other.view_is
    (by_quotients (ratio c.self.inside.top c.self.inside.under) (ratio c.other.inside.top c.other.inside.under) c.div_euclid-own.result c.div_euclid-others.result c.self.invariant.positive c.other.invariant.positive
    (c.div_euclid-own.ensures ∙ ap₂ int_div_euclid (to_z-of_z w128 c.self.inside.top t) (to_z-of_z w128 c.self.inside.under u))
    (c.div_euclid-others.ensures ∙ ap₂ int_div_euclid (to_z-of_z w128 c.other.inside.top v) (to_z-of_z w128 c.other.inside.under w)) h))

pub returns-then-others-own : goal.returns-then-others-own
returns-then-others-own c =
    let t : FitsSigned w128 c.self.inside.top = search rules in
    let u : FitsSigned w128 c.self.inside.under = search rules in
    let v : FitsSigned w128 c.other.inside.top = search rules in
    let w : FitsSigned w128 c.other.inside.under = search rules in
    let h : c.div_euclid-others.result <ℤ c.div_euclid-own.result = grind (arith, ints, to_z-of_z) in
    subst (λ f. IsLess c.args.other.now f) c.self.view_is (subst (λ g. IsLess g (ratio c.self.inside.top c.self.inside.under)) c.other.view_is
    (by_quotients (ratio c.other.inside.top c.other.inside.under) (ratio c.self.inside.top c.self.inside.under) c.div_euclid-others.result c.div_euclid-own.result c.other.invariant.positive c.self.invariant.positive
    (c.div_euclid-others.ensures ∙ ap₂ int_div_euclid (to_z-of_z w128 c.other.inside.top v) (to_z-of_z w128 c.other.inside.under w))
    (c.div_euclid-own.ensures ∙ ap₂ int_div_euclid (to_z-of_z w128 c.self.inside.top t) (to_z-of_z w128 c.self.inside.under u)) h))

pub returns : goal.returns
returns c =
    let t : FitsSigned w128 c.self.inside.top = search rules in
    let u : FitsSigned w128 c.self.inside.under = search rules in
    let v : FitsSigned w128 c.other.inside.top = search rules in
    let w : FitsSigned w128 c.other.inside.under = search rules in
    let r : FitsSigned w128 c.rem_euclid-own_rest.result = search rules in
    let s : FitsSigned w128 c.rem_euclid-others_rest.result = search rules in
    let h : c.div_euclid-own.result ≡ c.div_euclid-others.result = grind (arith, ints, to_z-of_z) in
    let a = by_rests (ratio c.self.inside.top c.self.inside.under) (ratio c.other.inside.top c.other.inside.under) c.div_euclid-own.result c.div_euclid-others.result
    (unsigned_abs (to_z w128 (of_z w128 c.rem_euclid-own_rest.result))) (unsigned_abs (to_z w128 (of_z w128 c.rem_euclid-others_rest.result)))
    (unsigned_abs (to_z w128 (of_z w128 c.self.inside.under))) (unsigned_abs (to_z w128 (of_z w128 c.other.inside.under)))
    c.self.invariant.positive c.other.invariant.positive
    (c.div_euclid-own.ensures ∙ ap₂ int_div_euclid (to_z-of_z w128 c.self.inside.top t) (to_z-of_z w128 c.self.inside.under u))
    (c.div_euclid-others.ensures ∙ ap₂ int_div_euclid (to_z-of_z w128 c.other.inside.top v) (to_z-of_z w128 c.other.inside.under w))
    h
    (rest_cast (to_z w128 (of_z w128 c.rem_euclid-own_rest.result)) c.self.inside.top c.self.inside.under
    (to_z-of_z w128 c.rem_euclid-own_rest.result r ∙ (c.rem_euclid-own_rest.ensures.value ∙ ap₂ int_rem_euclid (to_z-of_z w128 c.self.inside.top t) (to_z-of_z w128 c.self.inside.under u))))
    (rest_cast (to_z w128 (of_z w128 c.rem_euclid-others_rest.result)) c.other.inside.top c.other.inside.under
    (to_z-of_z w128 c.rem_euclid-others_rest.result s ∙ (c.rem_euclid-others_rest.ensures.value ∙ ap₂ int_rem_euclid (to_z-of_z w128 c.other.inside.top v) (to_z-of_z w128 c.other.inside.under w))))
    (ap (λ z. pos (unsigned_abs z)) (to_z-of_z w128 c.self.inside.under u) ∙ cast_is c.self.inside.under (at_least c.self.inside.under c.self.invariant.positive))
    (ap (λ z. pos (unsigned_abs z)) (to_z-of_z w128 c.other.inside.under w) ∙ cast_is c.other.inside.under (at_least c.other.inside.under c.other.invariant.positive))
    c.compare_rests.result c.compare_rests.ensures in
    subst (λ f. MatchOrdering c.compare_rests.result (IsLess f c.args.other.now) (IsSame f c.args.other.now) (IsLess c.args.other.now f)) c.self.view_is
    (subst (λ g. MatchOrdering c.compare_rests.result (IsLess (ratio c.self.inside.top c.self.inside.under) g) (IsSame (ratio c.self.inside.top c.self.inside.under) g) (IsLess g (ratio c.self.inside.top c.self.inside.under))) c.other.view_is a)
