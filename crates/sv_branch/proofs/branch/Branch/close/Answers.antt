use Rattle.std.proofs.Common.{◌≡◌, ◌≤◌, length, take, ap, sym, subst, ◌∙◌, arith}
use Rattle.std.proofs.lemmas.List.{length-take}
use Rattle.sv_branch.specs.OpenBranches.{AreNested, open_around}
use Rattle.sv_branch.specs.Stacks.{stacked}
use Rattle.sv_branch.proofs.Stacking.{nested_around}
use Rattle.sv_branch.proofs.branch.Branch.close.Goals as goal

pub invariant_of-self : goal.invariant_of-self
invariant_of-self c =
    let left : stacked c.truncate.new.self.items ≡ open_around (stacked c.self.inside.splits.items) =
    ap stacked c.truncate.ensures.items
    ∙ subst (λ x. stacked (take c.open_count-count.result x) ≡ open_around (stacked x)) c.deref.ensures.value c.open_count-count.ensures in
    let fewer : length c.truncate.new.self.items ≤ length c.self.inside.splits.items = rw c.truncate.ensures.items (omega (arith, length-take c.open_count-count.result c.self.inside.splits.items)) in (
      subst (AreNested (length c.self.inside.force.items)) (sym left) (nested_around _ _ c.self.invariant.0),
      c.self.invariant.1,
      omega (arith, fewer, c.self.invariant.2),
      omega (arith, c.self.invariant.3, c.truncate.ensures.capacity),
    )
