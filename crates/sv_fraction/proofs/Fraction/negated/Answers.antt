use Rattle.std.proofs.Common.{◌≡◌, sym, ap, ◌∙◌, subst, arith, to_z-of_z, rules, neg_ℤ}
use Rattle.std.specs.Prelude.{FitsSigned}
use mir.Syntax.{w128}
use Rattle.std.proofs.lemmas.Int.{ints}
use Rattle.sv_fraction.specs.Fractions.{Ratio, ratio, IsReduced}
use Rattle.sv_fraction.proofs.Reducing.{held}
use Rattle.sv_fraction.proofs.Steps.{negation_reduced}
use Rattle.sv_fraction.proofs.Fraction.negated.Goals as goal

pub invariant_of-result : goal.invariant_of-result
invariant_of-result c =
    let s : FitsSigned w128 c.in_ok-top.top = search rules in
    let u : FitsSigned w128 c.self.inside.under = search rules in
    let e : c.in_ok-top.top ≡ neg_ℤ c.self.inside.top = grind (arith, ints, to_z-of_z) in
    subst IsReduced (sym (held c.in_ok-top.top c.self.inside.under s u)) (subst (λ z. IsReduced (ratio z c.self.inside.under)) (sym e) (negation_reduced c.self.inside.top c.self.inside.under c.self.invariant))

pub returns : goal.returns
returns c =
    let s : FitsSigned w128 c.in_ok-top.top = search rules in
    let u : FitsSigned w128 c.self.inside.under = search rules in
    let e : c.in_ok-top.top ≡ neg_ℤ c.self.inside.top = grind (arith, ints, to_z-of_z) in
    let h = held c.in_ok-top.top c.self.inside.under s u in
    let i = subst IsReduced (sym h) (subst (λ z. IsReduced (ratio z c.self.inside.under)) (sym e) (negation_reduced c.self.inside.top c.self.inside.under c.self.invariant)) in
    let k : ratio c.in_ok-top.top c.self.inside.under ≡ ratio (neg_ℤ c.args.self.top) c.args.self.under
    = ap (λ z. ratio z c.self.inside.under) e ∙ ap (λ (f : Ratio). ratio (neg_ℤ f.top) f.under) c.self.view_is in
    (subst IsReduced c.self.view_is c.self.invariant, i, h ∙ k)
