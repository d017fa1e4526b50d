use Rattle.std.proofs.Common.{rules, ap, ◌∙◌}
use Rattle.std.specs.Prelude.{FitsSigned}
use Rattle.std.specs.List.{slice_range}
use Rattle.std.proofs.lemmas.Int.{to_z-of_z}
use mir.Syntax.{w128}
use Rattle.sv_force.proofs.Storing.{some_fact_at, row_at, range_at}
use Rattle.sv_force.proofs.force.InForce.row.Goals as goal

pub between-requires-clause-order : goal.between-requires-clause-order
between-requires-clause-order c = (range_at _ _ _ _ _ _ c.self.view_is c.self.invariant.0 c.args.place c.index-slot.result.now c.requires c.index-slot.ensures).0

pub between-requires-clause-within : goal.between-requires-clause-within
between-requires-clause-within c = rw c.deref.ensures.value ((range_at _ _ _ _ _ _ c.self.view_is c.self.invariant.0 c.args.place c.index-slot.result.now c.requires c.index-slot.ensures).1)

pub returns-in-Fact : goal.returns-in-Fact
returns-in-Fact c = some_fact_at _ _ _ _ _ _ c.self.view_is c.self.invariant.0 c.args.place c.index-slot.result.now _ _ c.requires c.index-slot.ensures c.in-Fact.is

pub returns-in-Row : goal.returns-in-Row
returns-in-Row c =
    let fits : FitsSigned w128 c.in-Row.constant = search rules in
    rw (to_z-of_z w128 c.in-Row.constant fits)
    (row_at _ _ _ _ _ _ c.self.view_is c.self.invariant.0 c.args.place c.index-slot.result.now _ _ c.requires c.index-slot.ensures c.in-Row.is
    (c.between.ensures ∙ ap (λ x. slice_range x c.index-slot.result.now.start c.index-slot.result.now.end) c.deref.ensures.value))
