use Rattle.std.proofs.Common.{◌≡◌, false, true, sym, ap₂, ◌∙◌, subst, rules, pos, neg_ℤ, ◌<ℤ◌, inr}
use Rattle.std.specs.Prelude.{FitsSigned, MatchOption}
use mir.Syntax.{w128}
use lib.Signed.{lt_z}
use Rattle.std.proofs.lemmas.Int.{to_z-of_z}
use Rattle.sv_num.specs.Range.{IsI128}
use Rattle.sv_fraction.specs.Fractions.{ratio, IsReduced, IsSame, magnitude, IsBound, ExceedsBound}
use Rattle.sv_fraction.proofs.Integers.{product_positive}
use Rattle.sv_fraction.proofs.Steps.{bound_below, bound_above, option_mapped, under_value, magnitude_positive, above_zero, below_zero}
use Rattle.sv_fraction.proofs.Fraction.bound.Goals as goal

pub reduced-lower-requires : goal.reduced-lower-requires
reduced-lower-requires c =
    let g : FitsSigned w128 c.in_ok-under.under = search rules in
    let u : FitsSigned w128 c.self.inside.under = search rules in
    let s : FitsSigned w128 c.in_ok-size.size = search rules in
    let e = under_value c.self.inside.under c.in_ok-size.size c.in_ok-under.under c.args.factor u s c.ranges.factor c.in_ok-size.ensures.1 c.in_ok-under.ensures.value in
    subst (λ z. pos 0 <ℤ z) (sym (to_z-of_z w128 c.in_ok-under.under g ∙ e))
    (product_positive c.self.inside.under (magnitude c.args.factor) c.self.invariant.positive (magnitude_positive c.args.factor c.requires))

pub returns-then-factor-lt0 : goal.returns-then-factor-lt0
returns-then-factor-lt0 c =
    let t : FitsSigned w128 c.self.inside.top = search rules in
    let g : FitsSigned w128 c.in_ok-under.under = search rules in
    let u : FitsSigned w128 c.self.inside.under = search rules in
    let s : FitsSigned w128 c.in_ok-size.size = search rules in
    let e = under_value c.self.inside.under c.in_ok-size.size c.in_ok-under.under c.args.factor u s c.ranges.factor c.in_ok-size.ensures.1 c.in_ok-under.ensures.value in
    let h = below_zero c.args.factor (subst (λ z. lt_z z (pos 0) ≡ true) (to_z-of_z w128 c.args.factor c.ranges.factor) c.if-factor-lt0.true) in
    let same = subst (λ r. IsSame c.reduced-lower.result r) (ap₂ ratio (to_z-of_z w128 c.self.inside.top t) (to_z-of_z w128 c.in_ok-under.under g ∙ e)) c.reduced-lower.ensures.same in
    subst (λ f. IsBound f c.args.factor c.reduced-lower.result) c.self.view_is
    (bound_below c.self.inside.top c.self.inside.under c.args.factor c.reduced-lower.result h c.reduced-lower.ensures.lowest same)

pub returns-else-factor-lt0 : goal.returns-else-factor-lt0
returns-else-factor-lt0 c =
    let t : FitsSigned w128 c.self.inside.top = search rules in
    let g : FitsSigned w128 c.in_ok-under.under = search rules in
    let u : FitsSigned w128 c.self.inside.under = search rules in
    let s : FitsSigned w128 c.in_ok-size.size = search rules in
    let e = under_value c.self.inside.under c.in_ok-size.size c.in_ok-under.under c.args.factor u s c.ranges.factor c.in_ok-size.ensures.1 c.in_ok-under.ensures.value in
    let h = above_zero c.args.factor c.requires (subst (λ z. lt_z z (pos 0) ≡ false) (to_z-of_z w128 c.args.factor c.ranges.factor) c.if-factor-lt0.false) in
    let same = subst (λ r. IsSame c.reduced-lower.result r) (ap₂ ratio (to_z-of_z w128 c.self.inside.top t) (to_z-of_z w128 c.in_ok-under.under g ∙ e)) c.reduced-lower.ensures.same in
    subst (λ f. MatchOption c.negated.result (ExceedsBound f c.args.factor) (IsBound f c.args.factor)) c.self.view_is
    (option_mapped (IsI128 (neg_ℤ c.reduced-lower.result.top) → ⊥) (ExceedsBound (ratio c.self.inside.top c.self.inside.under) c.args.factor)
    (λ r. IsReduced c.reduced-lower.result × IsReduced r × (r ≡ ratio (neg_ℤ c.reduced-lower.result.top) c.reduced-lower.result.under)) (IsBound (ratio c.self.inside.top c.self.inside.under) c.args.factor)
    c.negated.result
    (λ n. inr (inr (h, c.reduced-lower.result, c.reduced-lower.ensures.lowest, same, n)))
    (λ r q. subst (IsBound (ratio c.self.inside.top c.self.inside.under) c.args.factor) (sym q.2)
    (bound_above c.self.inside.top c.self.inside.under c.args.factor c.reduced-lower.result h c.reduced-lower.ensures.lowest same))
    c.negated.ensures)
