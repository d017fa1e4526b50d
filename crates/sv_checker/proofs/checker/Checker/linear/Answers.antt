use Rattle.std.proofs.Common.{refl, sym, ap, ◌∙◌, subst, vec_capacity}
use Rattle.std.specs.Int.{w128}
use Rattle.std.proofs.lemmas.Int.{to_z-of_z}
use Rattle.sv_log.specs.Logs.{IsAllowed}
use Rattle.sv_log.specs.LogCauses.{IsFirstFault}
use Rattle.sv_force.specs.InForce.{RowOf}
use Rattle.sv_branch.specs.OpenBranches.{with_held}
use Rattle.sv_allowed.specs.EntryJudging.{cause, made, stands}
use Rattle.sv_log.specs.LogEntries.{Linear}
use Rattle.sv_checker.specs.Checkers.{IsKept}
use Rattle.sv_checker.proofs.Keeping.{over, item_room, slice_room, kept_held, sound_linear, rejects_as, accepts_held}
use Rattle.sv_checker.proofs.checker.Checker.linear.Goals as goal

pub as_its_form-requires-clause-forms : goal.as_its_form-requires-clause-forms
as_its_form-requires-clause-forms c = c.self.invariant.beside.forms

pub as_its_form-requires-clause-over : goal.as_its_form-requires-clause-over
as_its_form-requires-clause-over c = over c.self.inside.terms c.self.inside.forms c.self.inside.flags.items _ _ c.self.inside.branch c.self.invariant

pub push_row-requires-clause-items : goal.push_row-requires-clause-items
push_row-requires-clause-items c = item_room c.self.inside.terms c.self.inside.forms c.self.inside.flags.items _ _ c.self.inside.branch c.self.invariant (RowOf (made c.args.constant c.args.parts.now)) (Linear c.args.p c.args.forward (made c.args.constant c.args.parts.now)) refl c.args.self.now c.self.view_is c.requires

pub push_row-requires-clause-parts : goal.push_row-requires-clause-parts
push_row-requires-clause-parts c = slice_room c.self.inside.terms c.self.inside.forms c.self.inside.flags.items _ _ c.self.inside.branch c.self.invariant c.args.constant c.args.parts.now (Linear c.args.p c.args.forward (made c.args.constant c.args.parts.now)) refl c.args.self.now c.self.view_is c.requires

pub invariant_of-self : goal.invariant_of-self
invariant_of-self c = subst (λ f. IsKept c.self.inside.terms f c.self.inside.flags.items (vec_capacity c.self.inside.flags) (vec_capacity c.self.inside.list) c.self.inside.branch) (sym c.as_its_form.ensures.same) c.self.invariant

pub invariant_of-self-in-None : goal.invariant_of-self-in-None
invariant_of-self-in-None c = subst (λ f. IsKept c.self.inside.terms f c.self.inside.flags.items (vec_capacity c.self.inside.flags) (vec_capacity c.self.inside.list) c.push_row.new.self) (sym c.as_its_form.ensures.same) (kept_held c.self.inside.terms c.self.inside.forms c.self.inside.flags.items _ _ c.self.inside.branch c.self.invariant (RowOf (made c.args.constant c.args.parts.now)) (Linear c.args.p c.args.forward (made c.args.constant c.args.parts.now)) refl c.args.self.now c.self.view_is c.push_row.new.self (c.push_row.ensures ∙ ap (λ z. with_held (RowOf (made z c.args.parts.now)) c.self.inside.branch) (to_z-of_z w128 c.args.constant c.ranges.constant)) c.requires (sound_linear c.self.inside.terms c.self.inside.forms c.self.inside.flags.items _ _ c.self.inside.branch c.self.invariant c.args.p c.args.forward (made c.args.constant c.args.parts.now) (subst (λ z. IsAllowed (stands c.self.inside.terms c.self.inside.branch) (Linear c.args.p c.args.forward (made z c.args.parts.now))) (to_z-of_z w128 c.args.constant c.ranges.constant) c.in-None.ensures.judged)))

pub returns-in-Some : goal.returns-in-Some
returns-in-Some c = rejects_as c.self.inside.terms c.self.inside.forms c.self.inside.flags.items _ _ c.self.inside.branch c.self.invariant c.args.self.now c.self.view_is (Linear c.args.p c.args.forward (made c.args.constant c.args.parts.now)) c.in-Some.why (subst (λ z. IsFirstFault (stands c.self.inside.terms c.self.inside.branch) (Linear c.args.p c.args.forward (made z c.args.parts.now)) (cause c.in-Some.why)) (to_z-of_z w128 c.args.constant c.ranges.constant) c.in-Some.ensures.judged)

pub returns-in-None : goal.returns-in-None
returns-in-None c = accepts_held c.self.inside.terms c.self.inside.forms c.self.inside.flags.items _ _ c.self.inside.branch c.self.invariant (RowOf (made c.args.constant c.args.parts.now)) (Linear c.args.p c.args.forward (made c.args.constant c.args.parts.now)) refl c.args.self.now c.self.view_is c.push_row.new.self (c.push_row.ensures ∙ ap (λ z. with_held (RowOf (made z c.args.parts.now)) c.self.inside.branch) (to_z-of_z w128 c.args.constant c.ranges.constant)) c.is_nested.ensures (subst (λ z. IsAllowed (stands c.self.inside.terms c.self.inside.branch) (Linear c.args.p c.args.forward (made z c.args.parts.now))) (to_z-of_z w128 c.args.constant c.ranges.constant) c.in-None.ensures.judged) refl
