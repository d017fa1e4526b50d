use Rattle.std.proofs.Common.{◌≡◌, ◌+◌, ◌<◌, ◌++◌, ◌∷◌, [], false, length, ap, sym, subst, ◌∙◌, arith}
use Rattle.std.proofs.lemmas.List.{length_push}
use Rattle.sv_force.specs.InForce.{Force, FactOn}
use Rattle.sv_branch.specs.OpenBranches.{Standing, AreNested}
use Rattle.sv_branch.specs.Stacks.{stacked}
use Rattle.sv_branch.proofs.Stacking.{stacked_push, stacked_length}
use Rattle.sv_branch.proofs.branch.Branch.split.Goals as goal

pub invariant_of-self : goal.invariant_of-self
invariant_of-self c =
    let room : length c.self.inside.force.items < c.self.inside.force.room = subst (λ (b : Standing). length b.force.items < b.force.room) (sym c.self.view_is) c.requires.items in
    let free : length c.self.inside.splits.items < c.self.inside.room = subst (λ n. n < c.self.inside.room) (stacked_length c.self.inside.splits.items) (subst (λ (b : Standing). length b.splits < b.room) (sym c.self.view_is) c.requires.splits) in
    let more : length c.push_fact.new.self.items ≡ length c.self.inside.force.items + 1 = ap (λ (f : Force). length f.items) c.push_fact.ensures ∙ length_push c.self.inside.force.items _ in
    let same : c.push_fact.new.self.room ≡ c.self.inside.force.room = ap (λ (f : Force). f.room) c.push_fact.ensures in
    let splits : c.push.new.self.items ≡ c.self.inside.splits.items ++ record { term = c.args.term; before = c.len.result; second = false } ∷ [] = grind (arith, c.push.ensures.items, c.push.ensures.succeeds) in
    let long : length c.push.new.self.items ≡ length c.self.inside.splits.items + 1 = ap length splits ∙ length_push c.self.inside.splits.items _ in
    let before : c.len.result ≡ length c.self.inside.force.items = c.len.ensures in (
      rw splits (rw stacked_push (omega (arith, more, before), subst (λ n. AreNested n (stacked c.self.inside.splits.items)) (sym before) c.self.invariant.0)),
      omega (arith, more, room, same),
      omega (arith, long, free),
      omega (arith, c.self.invariant.3, c.push.ensures.capacity),
    )
