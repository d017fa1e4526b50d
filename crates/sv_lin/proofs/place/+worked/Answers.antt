use Rattle.std.proofs.Common.{rules}
use Rattle.std.specs.Prelude.{FitsSigned}
use Rattle.std.proofs.lemmas.Int.{to_z-of_z}
use mir.Syntax.{w128}
use Rattle.sv_lin.specs.Placing.{point_of}
use Rattle.sv_lin.proofs.Bounding.{nothing_worked, worked_stops, worked_more}
use Rattle.sv_lin.proofs.place.+worked.Goals as goal

pub returns-in_default : goal.returns-in_default
returns-in_default t c = nothing_worked (point_of c.args.places.now) c.args.start c.args.parts.now c.in_default.ensures.cases

pub returns-in_default-plus : goal.returns-in_default-plus
returns-in_default-plus t c =
    let f : FitsSigned w128 c.in-Some.field-0-0.now.0 = search rules in
    worked_stops (point_of c.args.places.now) c.args.start c.value_at.result _ c.args.parts.now c.in-Some.rest.now c.in-Some.field-0-0.now c.in-Some.ensures.cases.0 (to_z-of_z w128 c.in-Some.field-0-0.now.0 f) c.value_at.ensures
    (λ h. cc (c.in_default-plus.ensures.exact.1 h))

pub returns : goal.returns
returns t c =
    let f : FitsSigned w128 c.in-Some.field-0-0.now.0 = search rules in
    worked_more (point_of c.args.places.now) c.args.start c.value_at.result c.in-Some-plus.sum _ c.args.parts.now c.in-Some.rest.now c.in-Some.field-0-0.now c.worked.result c.in-Some.ensures.cases.0 (to_z-of_z w128 c.in-Some.field-0-0.now.0 f) c.value_at.ensures
    c.in-Some-plus.ensures.sum c.worked.ensures
