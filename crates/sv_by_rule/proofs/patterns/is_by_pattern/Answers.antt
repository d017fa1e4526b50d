use Rattle.std.proofs.Common.{◌↔◌, sym, subst}
use Rattle.sv_term.specs.FactRules.{IsByRule}
use Rattle.sv_pattern.specs.Patterns.{IsByPattern, facts_by, fact_by}
use Rattle.sv_by_rule.proofs.RuleLaw as law
use Rattle.sv_by_rule.proofs.patterns.is_by_pattern.Goals as goal

pub returns : goal.returns
returns g c =
    let ts = g.T.TermNumbers.trees c.args.terms.now in
    let fs = facts_by ts c.args.premises.now in
    let fact = fact_by ts (c.args.sign, c.args.n) in
    let own = law.patterns_are_rules c.args.rule c.requires.pattern fs fact in
    let same = subst (λ steps. IsByPattern steps fs fact ↔ IsByRule c.args.rule fs fact) (sym c.steps_of.ensures.steps) own in
    (λ h. same.0 (c.follow.ensures.0 h), λ r. c.follow.ensures.1 (same.1 r))
