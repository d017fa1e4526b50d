use Rattle.std.proofs.Common.{rules}
use Rattle.std.specs.Prelude.{FitsSigned}
use mir.Syntax.{w128}
use Rattle.sv_force.proofs.Storing.{row_is}
use Rattle.sv_force.proofs.Seeking.{same_signed}
use Rattle.sv_force.proofs.force.InForce.is_row.Goals as goal

pub returns-then-own_constant-constant : goal.returns-then-own_constant-constant
returns-then-own_constant-constant c =
    let own : FitsSigned w128 c.args.constant = search rules in
    let fits : FitsSigned w128 c.in-Some.own_constant = search rules in
    row_is c.args.self.now.items c.args.place _ _ _ _ _ c.in-Some.ensures (same_signed _ _ fits own c.if-own_constant-constant.true) c.same_parts.ensures
