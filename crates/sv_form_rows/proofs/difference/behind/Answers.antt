use Rattle.std.proofs.Common.{rules}
use Rattle.std.specs.Prelude.{FitsSigned}
use mir.Syntax.{w128}
use lib.IntN.{◌-ℤ◌}
use Rattle.sv_form_rows.proofs.Answering.{gap_not_zero, not_part, not_first}
use Rattle.sv_form_rows.proofs.difference.behind.Goals as goal

pub returns-else-is_part : goal.returns-else-is_part
returns-else-is_part c =
    let f : FitsSigned w128 c.in-Some.field-0-0.now.0 = search rules in
    not_first (c.args.a -ℤ c.args.b) c.args.column c.in-Some.field-0-0.now c.args.made.now c.in-Some.rest.now c.in-Some.ensures.cases.0 (gap_not_zero c.args.a c.args.b c.if-a-b.false)
    (not_part c.in-Some.field-0-0.now.0 c.args.a c.args.b c.in-Some.field-0-0.now.1 c.args.column c.is_part.result f c.ranges.a c.ranges.b c.is_part.ensures c.if-is_part.false)
