use Rattle.std.proofs.Common.{◌≡◌, sym, subst, arith, rules}
use Rattle.std.specs.Prelude.{FitsSigned}
use Rattle.std.proofs.lemmas.Int.{to_z-of_z}
use mir.Syntax.{w128}
use Rattle.sv_row.specs.RowParts.{monomials}
use Rattle.sv_derived.specs.Columns.{TakesAt}
use Rattle.sv_derived.proofs.Heads.{taken_none, taken_first, taken_later}
use Rattle.sv_derived.proofs.sum.at_column.Goals as goal

pub returns-then-y-x : goal.returns-then-y-x
returns-then-y-x c =
    let f : FitsSigned w128 c.in-Some.field-0-0.now.0 = search rules in
    let e : c.in-Some.field-0-0.now.1 ≡ c.args.x = omega arith in
    subst (λ z. TakesAt c.args.x (monomials c.args.parts.now) z (monomials c.in-Some.rest.now)) (sym (to_z-of_z w128 c.in-Some.field-0-0.now.0 f))
    (taken_first c.args.x c.in-Some.field-0-0.now c.args.parts.now c.in-Some.rest.now c.in-Some.ensures.cases.0 c.requires.0 e)

pub returns-else-y-x : goal.returns-else-y-x
returns-else-y-x c = taken_later c.args.x c.in-Some.field-0-0.now c.args.parts.now c.in-Some.rest.now c.in-Some.ensures.cases.0 c.requires.0 c.requires.1 c.if-y-x.false

pub returns-in-None : goal.returns-in-None
returns-in-None c = taken_none c.args.x c.args.parts.now c.in-None.ensures.cases
