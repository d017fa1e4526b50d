use Rattle.std.proofs.Common.{◌≡◌, ap, arith, rules}
use Rattle.std.specs.Prelude.{FitsSigned}
use mir.Syntax.{w128}
use mir.Val.{of_z}
use Rattle.sv_row.specs.RowParts.{monomials}
use Rattle.sv_derived.proofs.Cancelling.{same_signed, zero_signed}
use Rattle.sv_derived.proofs.Heads.{behind_nothing, behind_first, not_first, none_behind}
use Rattle.sv_derived.proofs.sum.behind.Goals as goal
use Rattle.sv_derived.proofs.sum.behind.Goals.{else-k-number-via-then-k-number+else-y-x, else-k-number-via-else-k-number}

pub returns-then-number-eq0 : goal.returns-then-number-eq0
returns-then-number-eq0 c = behind_nothing c.args.number c.args.x (monomials c.args.made.now) (zero_signed c.args.number c.ranges.number c.if-number-eq0.true)

pub returns-then-y-x : goal.returns-then-y-x
returns-then-y-x c =
    let f : FitsSigned w128 c.in-Some.field-0-0.now.0 = search rules in
    let e : c.in-Some.field-0-0.now.1 ≡ c.args.x = omega arith in
    behind_first c.args.number c.args.x c.in-Some.field-0-0.now c.args.made.now c.in-Some.rest.now c.in-Some.ensures.cases.0 (λ z. c.if-number-eq0.false (ap (of_z w128) z))
    (same_signed c.in-Some.field-0-0.now.0 c.args.number f c.ranges.number c.if-k-number.true) e

pub returns-else-k-number : goal.returns-else-k-number
returns-else-k-number c =
    not_first c.args.number c.args.x c.in-Some.field-0-0.now c.args.made.now c.in-Some.rest.now c.in-Some.ensures.cases.0 (λ z. c.if-number-eq0.false (ap (of_z w128) z))
    (elim c.else-k-number.branch [
      | else-k-number-via-then-k-number+else-y-x w ↦ λ e. w.if-y-x.false e.1
      | else-k-number-via-else-k-number w ↦ λ e. w.if-k-number.false (ap (of_z w128) e.0)
    ])

pub returns-in-None : goal.returns-in-None
returns-in-None c = none_behind c.args.number c.args.x c.args.made.now c.in-None.ensures.cases (λ z. c.if-number-eq0.false (ap (of_z w128) z))
