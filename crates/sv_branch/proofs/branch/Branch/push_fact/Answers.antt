use Rattle.std.proofs.Common.{◌≡◌, ◌+◌, ◌<◌, ◌∷◌, [], length, ap, sym, subst, ◌∙◌, arith}
use Rattle.std.proofs.lemmas.List.{length_push}
use Rattle.sv_force.specs.InForce.{Force, FactOn}
use Rattle.sv_branch.specs.OpenBranches.{Standing}
use Rattle.sv_branch.proofs.Stacking.{nested_more}
use Rattle.sv_branch.proofs.branch.Branch.push_fact.Goals as goal

pub invariant_of-self : goal.invariant_of-self
invariant_of-self c =
    let room : length c.self.inside.force.items < c.self.inside.force.room = subst (λ (b : Standing). length b.force.items < b.force.room) (sym c.self.view_is) c.requires in
    let more : length c.push_fact.new.self.items ≡ length c.self.inside.force.items + 1 = ap (λ (f : Force). length f.items) c.push_fact.ensures ∙ length_push c.self.inside.force.items (FactOn c.args.sign c.args.term) in
    let same : c.push_fact.new.self.room ≡ c.self.inside.force.room = ap (λ (f : Force). f.room) c.push_fact.ensures in
    (nested_more _ _ _ c.self.invariant.0 (omega (arith, more)), omega (arith, more, room, same), c.self.invariant.2, c.self.invariant.3)
