use Rattle.std.proofs.Common.{◌≡◌, ◌+◌, ◌-◌, ◌<◌, ◌++◌, ◌∷◌, [], false, length, take, ap, sym, subst, ◌∙◌, arith}
use Rattle.std.proofs.lemmas.List.{length-set}
use Rattle.sv_force.specs.InForce.{Force, force, FactOn}
use Rattle.sv_branch.specs.OpenBranches.{Standing, IsInFirstHalf, with_items, turned}
use Rattle.sv_branch.proofs.Stacking.{half_has_last, length_last, cut_is, cut_nested}
use Rattle.sv_branch.proofs.branch.Branch.cut.Goals as goal

pub invariant_of-self : goal.invariant_of-self
invariant_of-self c =
    let last = half_has_last c.self.inside.splits.items (subst (λ (b : Standing). IsInFirstHalf b.splits) (sym c.self.view_is) c.requires) in
    let at : c.len-last.result - 1 ≡ length last.front = omega (arith, c.self.inside.splits.ok.0, c.len-last.ensures, length_last _ _ _ last.is) in
    let is : c.push_fact.new.self ≡ with_items (take c.index-split.result.now.before c.self.inside.force.items ++ FactOn false c.index-split.result.now.term ∷ []) c.self.inside.force =
    c.push_fact.ensures ∙ ap (λ (f : Force). force (f.items ++ FactOn false c.index-split.result.now.term ∷ []) f.room f.parts_room) c.truncate.ensures in
    let both = cut_nested _ _ _ last at c.index-split.ensures c.self.inside.force _ c.self.inside.room c.self.inside.closed is c.self.invariant.0 c.self.invariant.1 in
    (both.0, both.1, rw length-set c.self.invariant.2, c.self.invariant.3)

pub returns : goal.returns
returns c =
    let last = half_has_last c.self.inside.splits.items (subst (λ (b : Standing). IsInFirstHalf b.splits) (sym c.self.view_is) c.requires) in
    let at : c.len-last.result - 1 ≡ length last.front = omega (arith, c.self.inside.splits.ok.0, c.len-last.ensures, length_last _ _ _ last.is) in
    let is : c.push_fact.new.self ≡ with_items (take c.index-split.result.now.before c.self.inside.force.items ++ FactOn false c.index-split.result.now.term ∷ []) c.self.inside.force =
    c.push_fact.ensures ∙ ap (λ (f : Force). force (f.items ++ FactOn false c.index-split.result.now.term ∷ []) f.room f.parts_room) c.truncate.ensures in
    cut_is _ _ _ last at c.index-split.ensures c.self.inside.force _ c.self.inside.room c.self.inside.closed is ∙ ap (λ (b : Standing). turned b b.splits) c.self.view_is
