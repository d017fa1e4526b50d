use Rattle.std.proofs.Common.{sym, ap₂, ◌∙◌, subst, rules, pos, ◌<ℤ◌, refl}
use Rattle.std.specs.Prelude.{FitsSigned, IsSome}
use Rattle.std.proofs.lemmas.Bool.{false≢true}
use mir.Syntax.{w128}
use Rattle.std.proofs.lemmas.Int.{to_z-of_z}
use Rattle.sv_num.specs.Range.{IsI128}
use Rattle.sv_fraction.specs.Fractions.{ratio, IsSame, FitsSum, IsSum}
use Rattle.sv_fraction.proofs.Integers.{product_positive}
use Rattle.sv_fraction.proofs.Steps.{sum_fits, sum_is, products, sums, made_fit, under_fits}
use Rattle.sv_fraction.proofs.Fraction.plus.Goals as goal

pub returns-in_err-top-clause-exact : goal.returns-in_err-top-clause-exact
returns-in_err-top-clause-exact c =
    let t : FitsSigned w128 c.self.inside.top = search rules in
    let u : FitsSigned w128 c.self.inside.under = search rules in
    let v : FitsSigned w128 c.value.inside.top = search rules in
    let w : FitsSigned w128 c.value.inside.under = search rules in
    let s : FitsSigned w128 c.in_ok-share.share = search rules in
    let d = c.in_ok-share.ensures.value ∙ products c.args.factor c.value.inside.top c.ranges.factor v in (
      λ h. absurd (false≢true (subst IsSome c.from_residual-in_err-top.ensures h)),
      λ h. absurd (false≢true (c.in_err-top.ensures.exact.1 (made_fit c.self.inside.top c.self.inside.under c.value.inside.top c.value.inside.under c.args.factor c.in_ok-share.share c.args.self c.args.value t u w s c.self.view_is c.value.view_is d h))),
    )

pub returns-in_err-under-clause-exact : goal.returns-in_err-under-clause-exact
returns-in_err-under-clause-exact c =
    let u : FitsSigned w128 c.self.inside.under = search rules in
    let w : FitsSigned w128 c.value.inside.under = search rules in (
      λ h. absurd (false≢true (subst IsSome c.from_residual-in_err-under.ensures h)),
      λ h. absurd (false≢true (c.in_err-under.ensures.exact.1 (under_fits c.self.inside.top c.self.inside.under c.value.inside.top c.value.inside.under c.args.factor c.args.self c.args.value u w c.self.view_is c.value.view_is h))),
    )

pub reduced-requires : goal.reduced-requires
reduced-requires c =
    let u : FitsSigned w128 c.self.inside.under = search rules in
    let w : FitsSigned w128 c.value.inside.under = search rules in
    let g : FitsSigned w128 c.in_ok-under.under = search rules in
    let e = c.in_ok-under.ensures.value ∙ products c.self.inside.under c.value.inside.under u w in
    subst (λ z. pos 0 <ℤ z) (sym (to_z-of_z w128 c.in_ok-under.under g ∙ e)) (product_positive c.self.inside.under c.value.inside.under c.self.invariant.positive c.value.invariant.positive)

pub returns-clause-sum : goal.returns-clause-sum
returns-clause-sum c =
    let t : FitsSigned w128 c.self.inside.top = search rules in
    let u : FitsSigned w128 c.self.inside.under = search rules in
    let v : FitsSigned w128 c.value.inside.top = search rules in
    let w : FitsSigned w128 c.value.inside.under = search rules in
    let s : FitsSigned w128 c.in_ok-share.share = search rules in
    let f : FitsSigned w128 c.in_ok-top.top = search rules in
    let g : FitsSigned w128 c.in_ok-under.under = search rules in
    let d = c.in_ok-share.ensures.value ∙ products c.args.factor c.value.inside.top c.ranges.factor v in
    let e = c.in_ok-top.ensures.value ∙ sums c.self.inside.top c.value.inside.under c.in_ok-share.share c.self.inside.under t w s u in
    let i = c.in_ok-under.ensures.value ∙ products c.self.inside.under c.value.inside.under u w in
    let same = subst (λ r. IsSame c.reduced.result r) (ap₂ ratio (to_z-of_z w128 c.in_ok-top.top f) (to_z-of_z w128 c.in_ok-under.under g)) c.reduced.ensures.same in
    subst (λ r. IsSum r c.args.factor c.args.value c.reduced.result) c.self.view_is
    (subst (λ r. IsSum (ratio c.self.inside.top c.self.inside.under) c.args.factor r c.reduced.result) c.value.view_is
    (sum_is (ratio c.self.inside.top c.self.inside.under) (ratio c.value.inside.top c.value.inside.under) c.reduced.result c.args.factor c.in_ok-share.share c.in_ok-top.top c.in_ok-under.under c.reduced.ensures.lowest same d e i))

pub returns-clause-exact : goal.returns-clause-exact
returns-clause-exact c =
    let t : FitsSigned w128 c.self.inside.top = search rules in
    let u : FitsSigned w128 c.self.inside.under = search rules in
    let v : FitsSigned w128 c.value.inside.top = search rules in
    let w : FitsSigned w128 c.value.inside.under = search rules in
    let s : FitsSigned w128 c.in_ok-share.share = search rules in
    let f : FitsSigned w128 c.in_ok-top.top = search rules in
    let g : FitsSigned w128 c.in_ok-under.under = search rules in
    let d = c.in_ok-share.ensures.value ∙ products c.args.factor c.value.inside.top c.ranges.factor v in
    let e = c.in_ok-top.ensures.value ∙ sums c.self.inside.top c.value.inside.under c.in_ok-share.share c.self.inside.under t w s u in
    let i = c.in_ok-under.ensures.value ∙ products c.self.inside.under c.value.inside.under u w in
    let x = c.in_ok-top.ensures.exact.0 refl in (
      λ _. subst (λ r. FitsSum r c.args.factor c.args.value) c.self.view_is
          (subst (λ r. FitsSum (ratio c.self.inside.top c.self.inside.under) c.args.factor r) c.value.view_is
          (sum_fits (ratio c.self.inside.top c.self.inside.under) (ratio c.value.inside.top c.value.inside.under) c.args.factor c.in_ok-share.share c.in_ok-top.top c.in_ok-under.under s f g d e i
          (subst IsI128 (products c.self.inside.top c.value.inside.under t w) x.0) (subst IsI128 (products c.in_ok-share.share c.self.inside.under s u) x.1))),
      λ _. refl,
    )
