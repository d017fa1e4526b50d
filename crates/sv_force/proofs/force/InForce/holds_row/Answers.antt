use Rattle.std.proofs.Common.{rules, refl, subst, IsTrue, true, false}
use Rattle.std.specs.List.{Contains}
use Rattle.std.specs.Prelude.{FitsSigned}
use Rattle.std.proofs.lemmas.Int.{to_z-of_z}
use mir.Syntax.{w128}
use mir.Val.{to_z, of_z}
use Rattle.sv_log.specs.LogRows.{row}
use Rattle.sv_row.specs.RowParts.{monomials}
use Rattle.sv_force.specs.InForce.{RowOf}
use Rattle.sv_force.proofs.Storing.{coded_by}
use Rattle.sv_force.proofs.Seeking.{Sought, sought_from, sought_next, sought_hit, sought_end}
use Rattle.sv_force.proofs.force.InForce.holds_row.Goals as goal

pub loop-at-init : goal.loop-at-init
loop-at-init c = sought_from _ (RowOf (row (to_z w128 (of_z w128 c.args.constant)) (monomials c.args.parts.now))) _ (coded_by _ _ _ _ _ _ c.self.view_is c.self.invariant.0) _ _ c.row_code.ensures c.last-at.ensures

pub loop-at-preserved : goal.loop-at-preserved
loop-at-preserved c =
    let there = subst (λ x. Sought c.args.self.now.items (RowOf (row (to_z w128 (of_z w128 c.args.constant)) (monomials c.args.parts.now))) x) c.in-Some.is c.loop-at.invariant in
    (sought_next _ (RowOf (row (to_z w128 (of_z w128 c.args.constant)) (monomials c.args.parts.now))) _ (coded_by _ _ _ _ _ _ c.self.view_is c.self.invariant.0) _ _ there (λ e. cc (c.if-is_row.false, c.is_row.ensures.1 e)) c.before-at.ensures).0

pub loop-at-smaller : goal.loop-at-smaller
loop-at-smaller c =
    let there = subst (λ x. Sought c.args.self.now.items (RowOf (row (to_z w128 (of_z w128 c.args.constant)) (monomials c.args.parts.now))) x) c.in-Some.is c.loop-at.invariant in
    rw c.in-Some.is
    ((sought_next _ (RowOf (row (to_z w128 (of_z w128 c.args.constant)) (monomials c.args.parts.now))) _ (coded_by _ _ _ _ _ _ c.self.view_is c.self.invariant.0) _ _ there (λ e. cc (c.if-is_row.false, c.is_row.ensures.1 e)) c.before-at.ensures).1)

pub returns-then-is_row : goal.returns-then-is_row
returns-then-is_row c =
    let own : FitsSigned w128 c.args.constant = search rules in
    subst (λ z. (IsTrue true → Contains c.args.self.now.items (RowOf (row z (monomials c.args.parts.now)))) × (Contains c.args.self.now.items (RowOf (row z (monomials c.args.parts.now))) → IsTrue true)) (to_z-of_z w128 c.args.constant own)
    (λ _. sought_hit _ (RowOf (row (to_z w128 (of_z w128 c.args.constant)) (monomials c.args.parts.now))) _ (coded_by _ _ _ _ _ _ c.self.view_is c.self.invariant.0) _ (c.is_row.ensures.0 c.if-is_row.true), λ _. refl)

pub returns : goal.returns
returns c =
    let own : FitsSigned w128 c.args.constant = search rules in
    let there = subst (λ x. Sought c.args.self.now.items (RowOf (row (to_z w128 (of_z w128 c.args.constant)) (monomials c.args.parts.now))) x) c.in_default.is c.loop-at.invariant in
    subst (λ z. (IsTrue false → Contains c.args.self.now.items (RowOf (row z (monomials c.args.parts.now)))) × (Contains c.args.self.now.items (RowOf (row z (monomials c.args.parts.now))) → IsTrue false)) (to_z-of_z w128 c.args.constant own)
    (λ e. cc e, λ h. absurd (sought_end _ (RowOf (row (to_z w128 (of_z w128 c.args.constant)) (monomials c.args.parts.now))) _ (coded_by _ _ _ _ _ _ c.self.view_is c.self.invariant.0) there h))
