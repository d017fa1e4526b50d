use Rattle.std.proofs.Common.{◌≡◌, ◌+◌, ◌<◌, ◌∷◌, [], length, ap, sym, subst, ◌∙◌, arith}
use Rattle.std.proofs.lemmas.List.{length_push}
use Rattle.sv_log.specs.LogRows.{row}
use Rattle.sv_row.specs.RowParts.{monomials}
use Rattle.sv_force.specs.InForce.{Force, RowOf}
use Rattle.sv_branch.specs.OpenBranches.{Standing}
use Rattle.sv_branch.proofs.Stacking.{nested_more}
use Rattle.sv_branch.proofs.branch.Branch.push_row.Goals as goal

pub invariant_of-self : goal.invariant_of-self
invariant_of-self c =
    let room : length c.self.inside.force.items < c.self.inside.force.room = subst (λ (b : Standing). length b.force.items < b.force.room) (sym c.self.view_is) c.requires.items in
    let more : length c.push_row.new.self.items ≡ length c.self.inside.force.items + 1 = ap (λ (f : Force). length f.items) c.push_row.ensures ∙ length_push c.self.inside.force.items _ in
    let same : c.push_row.new.self.room ≡ c.self.inside.force.room = ap (λ (f : Force). f.room) c.push_row.ensures in
    (nested_more _ _ _ c.self.invariant.0 (omega (arith, more)), omega (arith, more, room, same), c.self.invariant.2, c.self.invariant.3)
