use Rattle.std.proofs.Common.{rules}
use Rattle.std.specs.Prelude.{FitsSigned}
use Rattle.std.proofs.lemmas.Int.{to_z-of_z}
use mir.Syntax.{w128}
use Rattle.sv_lin.proofs.Lasts.{row_at_last}
use Rattle.sv_lin.proofs.sides.factor_at.Goals as goal

pub returns-then-greatest-column : goal.returns-then-greatest-column
returns-then-greatest-column c =
    let f : FitsSigned w128 c.in-Some.field-0-0.now.0 = search rules in
    row_at_last c.args.row.now c.as_slice.result.now c.in-Some.field-0-1.now c.in-Some.field-0-0.now _ c.args.column c.as_slice.ensures c.in-Some.ensures.cases.0 c.if-greatest-column.true (to_z-of_z w128 c.in-Some.field-0-0.now.0 f) c.requires
