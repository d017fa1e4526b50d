use Rattle.std.proofs.Common.{◌↔◌, IsTrue, sym, subst}
use Rattle.sv_term.specs.FactRules.{IsByRule}
use Rattle.sv_pattern.specs.Patterns.{fact_by, facts_by}
use Rattle.sv_pattern.specs.NodeOpenings.{ArePremises}
use Rattle.sv_by_rule.proofs.Gathering.{given_by, none_given, held_premises}
use Rattle.sv_by_rule.proofs.asking.by_rule.Goals as goal

pub is_by_pattern-requires-clause-premises : goal.is_by_pattern-requires-clause-premises
is_by_pattern-requires-clause-premises g c =
    let ts = g.T.TermNumbers.trees c.args.terms.now in
    subst (ArePremises ts) (sym c.as_slice.ensures.value) (held_premises ts c.args.force.now.items c.requires.below c.args.from.now c.in-Some.premises.items c.in-Some.ensures)

pub returns-in-Some : goal.returns-in-Some
returns-in-Some g c =
    let ts = g.T.TermNumbers.trees c.args.terms.now in
    let own = given_by ts c.args.force.now.items c.args.rule c.args.from.now c.args.sign c.args.n c.in-Some.premises.items c.in-Some.ensures in
    let same = subst (λ ps. IsTrue c.is_by_pattern.result ↔ IsByRule c.args.rule (facts_by ts ps) (fact_by ts (c.args.sign, c.args.n))) c.as_slice.ensures.value c.is_by_pattern.ensures in
    (λ h. own.0 (same.0 h), λ h. same.1 (own.1 h))

pub returns-in-None : goal.returns-in-None
returns-in-None g c =
    let ts = g.T.TermNumbers.trees c.args.terms.now in
    (λ h. cc h, λ h. absurd (none_given ts c.args.force.now.items c.args.rule c.args.from.now c.args.sign c.args.n c.if-rule-eq23.false c.in-None.ensures h))
