use Rattle.std.proofs.Common.{false, refl, rules, ◌≡◌}
use Rattle.std.specs.Prelude.{FitsSigned}
use Rattle.std.proofs.lemmas.Int.{to_z-of_z}
use mir.Syntax.{w128}
use Rattle.sv_log.specs.LogRows.{times_parts}
use Rattle.sv_row.specs.RowParts.{monomials}
use Rattle.sv_derived.proofs.Cancelling.{refuses}
use Rattle.sv_derived.proofs.Dividing.{no_multiples, none_for, other_column, not_multiple, multiples_are, multiple_read, parts_read}
use Rattle.sv_derived.proofs.divided.+are_multiples.Goals as goal

pub returns-in_default : goal.returns-in_default
returns-in_default n c = no_multiples c.args.d c.args.parts.now c.args.multiples.now c.is_empty.result c.in_default.ensures.cases c.is_empty.ensures

pub returns-in_default-split_first : goal.returns-in_default-split_first
returns-in_default-split_first n c =
    refuses (monomials c.args.multiples.now ≡ times_parts c.args.d (monomials c.args.parts.now)) false refl
    (none_for c.args.d c.args.parts.now c.in-Some.rest.now c.in-Some.field-0-0.now c.in-Some.ensures.cases.0 c.args.multiples.now c.in_default-split_first.ensures.cases)

pub returns-then-x-y : goal.returns-then-x-y
returns-then-x-y n c =
    refuses (monomials c.args.multiples.now ≡ times_parts c.args.d (monomials c.args.parts.now)) false refl
    (other_column c.args.d c.args.parts.now c.in-Some.rest.now c.in-Some.field-0-0.now c.in-Some.ensures.cases.0 c.args.multiples.now c.in-Some-split_first.others.now c.in-Some-split_first.field-0-0.now c.in-Some-split_first.ensures.cases.0 c.if-x-y.true)

pub returns-then-not-is_multiple : goal.returns-then-not-is_multiple
returns-then-not-is_multiple n c =
    let f : FitsSigned w128 c.in-Some.field-0-0.now.0 = search rules in
    let g : FitsSigned w128 c.in-Some-split_first.field-0-0.now.0 = search rules in
    refuses (monomials c.args.multiples.now ≡ times_parts c.args.d (monomials c.args.parts.now)) false refl
    (not_multiple c.args.d c.args.parts.now c.in-Some.rest.now c.in-Some.field-0-0.now c.in-Some.ensures.cases.0 c.args.multiples.now c.in-Some-split_first.others.now c.in-Some-split_first.field-0-0.now c.in-Some-split_first.ensures.cases.0
    (λ e. cc (
      c.if-not-is_multiple.true,
      (multiple_read c.args.d c.in-Some.field-0-0.now.0 c.in-Some-split_first.field-0-0.now.0 _ _ _ (to_z-of_z w128 c.args.d c.ranges.d)
          (to_z-of_z w128 c.in-Some.field-0-0.now.0 f) (to_z-of_z w128 c.in-Some-split_first.field-0-0.now.0 g) c.is_multiple.result c.is_multiple.ensures).1 e,
    )))

pub returns : goal.returns
returns n c =
    let f : FitsSigned w128 c.in-Some.field-0-0.now.0 = search rules in
    let g : FitsSigned w128 c.in-Some-split_first.field-0-0.now.0 = search rules in
    multiples_are c.args.d c.args.parts.now c.in-Some.rest.now c.in-Some.field-0-0.now c.in-Some.ensures.cases.0 c.args.multiples.now c.in-Some-split_first.others.now c.in-Some-split_first.field-0-0.now c.in-Some-split_first.ensures.cases.0
    c.are_multiples.result c.if-x-y.false
    ((multiple_read c.args.d c.in-Some.field-0-0.now.0 c.in-Some-split_first.field-0-0.now.0 _ _ _ (to_z-of_z w128 c.args.d c.ranges.d)
    (to_z-of_z w128 c.in-Some.field-0-0.now.0 f) (to_z-of_z w128 c.in-Some-split_first.field-0-0.now.0 g) c.is_multiple.result c.is_multiple.ensures).0 c.if-not-is_multiple.false)
    (parts_read c.args.d _ (to_z-of_z w128 c.args.d c.ranges.d) (monomials c.in-Some-split_first.others.now) (monomials c.in-Some.rest.now) c.are_multiples.result c.are_multiples.ensures)
