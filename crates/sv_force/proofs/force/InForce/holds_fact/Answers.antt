use Rattle.std.proofs.Common.{refl, subst}
use Rattle.sv_force.specs.InForce.{FactOn}
use Rattle.sv_force.proofs.Storing.{coded_by}
use Rattle.sv_force.proofs.Seeking.{Sought, sought_from, sought_next, sought_hit, sought_end}
use Rattle.sv_force.proofs.force.InForce.holds_fact.Goals as goal

pub loop-at-init : goal.loop-at-init
loop-at-init c = sought_from _ (FactOn c.args.sign c.args.term) _ (coded_by _ _ _ _ _ _ c.self.view_is c.self.invariant.0) _ _ c.fact_code.ensures c.last-at.ensures

pub loop-at-preserved : goal.loop-at-preserved
loop-at-preserved c =
    let there = subst (λ x. Sought c.args.self.now.items (FactOn c.args.sign c.args.term) x) c.in-Some.is c.loop-at.invariant in
    (sought_next _ (FactOn c.args.sign c.args.term) _ (coded_by _ _ _ _ _ _ c.self.view_is c.self.invariant.0) _ _ there (λ e. cc (c.if-is_fact.false, c.is_fact.ensures.1 e)) c.before-at.ensures).0

pub loop-at-smaller : goal.loop-at-smaller
loop-at-smaller c =
    let there = subst (λ x. Sought c.args.self.now.items (FactOn c.args.sign c.args.term) x) c.in-Some.is c.loop-at.invariant in
    rw c.in-Some.is
    ((sought_next _ (FactOn c.args.sign c.args.term) _ (coded_by _ _ _ _ _ _ c.self.view_is c.self.invariant.0) _ _ there (λ e. cc (c.if-is_fact.false, c.is_fact.ensures.1 e)) c.before-at.ensures).1)

pub returns-then-is_fact : goal.returns-then-is_fact
returns-then-is_fact c = (λ _. sought_hit _ (FactOn c.args.sign c.args.term) _ (coded_by _ _ _ _ _ _ c.self.view_is c.self.invariant.0) _ (c.is_fact.ensures.0 c.if-is_fact.true), λ _. refl)

pub returns : goal.returns
returns c =
    let there = subst (λ x. Sought c.args.self.now.items (FactOn c.args.sign c.args.term) x) c.in_default.is c.loop-at.invariant in
    (λ e. cc e, λ h. absurd (sought_end _ (FactOn c.args.sign c.args.term) _ (coded_by _ _ _ _ _ _ c.self.view_is c.self.invariant.0) there h))
