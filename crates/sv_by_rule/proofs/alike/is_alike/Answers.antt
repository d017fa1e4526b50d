use Rattle.std.proofs.Common.{◌↔◌, IsTrue, sym, subst}
use Rattle.sv_by_rule.specs.ItemFacts.{IsGivenBy}
use Rattle.sv_by_rule.proofs.Congruence.{alike_given}
use Rattle.sv_by_rule.proofs.alike.is_alike.Goals as goal

pub returns : goal.returns
returns g c =
    let ts = g.T.TermNumbers.trees c.args.terms.now in
    let items = c.args.force.now.items in
    let same = alike_given ts items c.args.from.now c.args.n c.in-Some.first c.in-Some.second c.in-Some.ensures c.args-2.result.now c.args-3.result.now
    (c.same_shape.ensures.0 c.if-not-same_shape.false) c.args-2.ensures.trees c.args-3.ensures.trees in
    subst (λ s. IsTrue c.are_differences.result ↔ IsGivenBy ts items 23 c.args.from.now s c.args.n) (sym c.if-not-sign.false)
    (λ h. same.0 (c.are_differences.ensures.0 h), λ h. c.are_differences.ensures.1 (same.1 h))
