use Rattle.std.proofs.Common.{refl, sym, ap₂, ◌∙◌, rules, ◌*ℤ◌, ◌+ℤ◌}
use Rattle.std.specs.Prelude.{FitsSigned}
use Rattle.std.proofs.lemmas.Int.{to_z-of_z}
use mir.Syntax.{w128}
use Rattle.sv_row.specs.RowParts.{monomials}
use Rattle.sv_lin.proofs.Combining.{last_is, at_none, at_some, cancels_from, fits_from, parts_from, sum_from, combined_from, by_constant, by_parts, is_combined}
use Rattle.sv_lin.specs.CancellingRows.{row_by}
use Rattle.sv_lin.proofs.step.combine_rows.Goals as goal

pub returns-in_default-combine : goal.returns-in_default-combine
returns-in_default-combine c =
    let f : FitsSigned w128 c.in-Some-Some.field-0-0-0.now.0 = search rules in
    let g : FitsSigned w128 c.in-Some-Some.field-0-0-1.now.0 = search rules in
    let fm : FitsSigned w128 c.in-Some.m = search rules in
    let fn : FitsSigned w128 c.in-Some.n = search rules in
    let em = to_z-of_z w128 c.in-Some.m fm in
    let en = to_z-of_z w128 c.in-Some.n fn in
    let ek = to_z-of_z w128 c.args.k c.ranges.k in
    let el = to_z-of_z w128 c.args.l c.ranges.l in
    let first = to_z-of_z w128 c.in-Some-Some.field-0-0-0.now.0 f
    ∙ last_is c.args.own.now c.in-Some-Some.field-0-1-0.now c.in-Some-Some.field-0-0-0.now c.requires.of_first.lows c.requires.first c.requires.column c.in-Some-Some.ensures.cases.0 c.requires.of_first.is in
    let second = to_z-of_z w128 c.in-Some-Some.field-0-0-1.now.0 g
    ∙ last_is c.args.other.now c.in-Some-Some.field-0-1-1.now c.in-Some-Some.field-0-0-1.now c.requires.of_second.lows c.requires.second c.requires.column c.in-Some-Some.ensures'.cases.0 c.requires.of_second.is in
    let cancels = cancels_from c.in-Some.m c.in-Some.n c.requires.first c.requires.second _ _ first second c.in-Some.ensures in
    by_constant c.args.k c.args.l c.args.own.now c.args.other.now c.requires c.in-Some.m c.in-Some.n cancels
    (λ h. cc (c.in_default-combine.ensures.exact.1 (fits_from _ _ _ _ c.in-Some.m c.in-Some.n c.args.k c.args.l (sym em) (sym en) (sym ek) (sym el) h)))

pub returns-in_default-2 : goal.returns-in_default-2
returns-in_default-2 c =
    let f : FitsSigned w128 c.in-Some-Some.field-0-0-0.now.0 = search rules in
    let g : FitsSigned w128 c.in-Some-Some.field-0-0-1.now.0 = search rules in
    let fm : FitsSigned w128 c.in-Some.m = search rules in
    let fn : FitsSigned w128 c.in-Some.n = search rules in
    let em = to_z-of_z w128 c.in-Some.m fm in
    let en = to_z-of_z w128 c.in-Some.n fn in
    let ek = to_z-of_z w128 c.args.k c.ranges.k in
    let el = to_z-of_z w128 c.args.l c.ranges.l in
    let first = to_z-of_z w128 c.in-Some-Some.field-0-0-0.now.0 f
    ∙ last_is c.args.own.now c.in-Some-Some.field-0-1-0.now c.in-Some-Some.field-0-0-0.now c.requires.of_first.lows c.requires.first c.requires.column c.in-Some-Some.ensures.cases.0 c.requires.of_first.is in
    let second = to_z-of_z w128 c.in-Some-Some.field-0-0-1.now.0 g
    ∙ last_is c.args.other.now c.in-Some-Some.field-0-1-1.now c.in-Some-Some.field-0-0-1.now c.requires.of_second.lows c.requires.second c.requires.column c.in-Some-Some.ensures'.cases.0 c.requires.of_second.is in
    let cancels = cancels_from c.in-Some.m c.in-Some.n c.requires.first c.requires.second _ _ first second c.in-Some.ensures in
    by_parts c.args.k c.args.l c.args.own.now c.args.other.now c.requires c.in-Some.m c.in-Some.n cancels
    (λ h. at_none c.in_ok-parts.field-0 _ _ c.in_default-2.is c.in_ok-parts.ensures (parts_from _ _ c.in-Some.m c.in-Some.n (monomials c.args.own.now) (monomials c.args.other.now) (sym em) (sym en) h))

pub returns : goal.returns
returns c =
    let f : FitsSigned w128 c.in-Some-Some.field-0-0-0.now.0 = search rules in
    let g : FitsSigned w128 c.in-Some-Some.field-0-0-1.now.0 = search rules in
    let fm : FitsSigned w128 c.in-Some.m = search rules in
    let fn : FitsSigned w128 c.in-Some.n = search rules in
    let em = to_z-of_z w128 c.in-Some.m fm in
    let en = to_z-of_z w128 c.in-Some.n fn in
    let ek = to_z-of_z w128 c.args.k c.ranges.k in
    let el = to_z-of_z w128 c.args.l c.ranges.l in
    let first = to_z-of_z w128 c.in-Some-Some.field-0-0-0.now.0 f
    ∙ last_is c.args.own.now c.in-Some-Some.field-0-1-0.now c.in-Some-Some.field-0-0-0.now c.requires.of_first.lows c.requires.first c.requires.column c.in-Some-Some.ensures.cases.0 c.requires.of_first.is in
    let second = to_z-of_z w128 c.in-Some-Some.field-0-0-1.now.0 g
    ∙ last_is c.args.other.now c.in-Some-Some.field-0-1-1.now c.in-Some-Some.field-0-0-1.now c.requires.of_second.lows c.requires.second c.requires.column c.in-Some-Some.ensures'.cases.0 c.requires.of_second.is in
    let cancels = cancels_from c.in-Some.m c.in-Some.n c.requires.first c.requires.second _ _ first second c.in-Some.ensures in
    let ft : FitsSigned w128 c.in-Some-combine.constant = search rules in
    let et = to_z-of_z w128 c.in-Some-combine.constant ft in
    let sum = at_some c.in_ok-parts.field-0 _ _ c.in-Some-2.parts c.in-Some-2.is c.in_ok-parts.ensures in
    let value = c.in-Some-combine.ensures.value ∙ ap₂ (λ a b. a +ℤ b) (ap₂ (λ a b. a *ℤ b) em ek) (ap₂ (λ a b. a *ℤ b) en el) in
    combined_from c.in-Some.m c.in-Some.n _ _ c.in-Some-combine.constant _ (row_by c.args.k c.args.own.now) (row_by c.args.l c.args.other.now) c.in-Some-2.parts.items em en et
    (is_combined c.args.k c.args.l c.args.own.now c.args.other.now c.requires c.in-Some.m c.in-Some.n cancels c.in-Some-combine.constant c.in-Some-2.parts.items
    (fits_from c.in-Some.m c.in-Some.n c.args.k c.args.l _ _ _ _ em en ek el (c.in-Some-combine.ensures.exact.0 refl))
    (parts_from c.in-Some.m c.in-Some.n _ _ (monomials c.args.own.now) (monomials c.args.other.now) em en sum.0)
    value
    (sum.1 ∙ sum_from c.in-Some.m c.in-Some.n _ _ (monomials c.args.own.now) (monomials c.args.other.now) em en))
