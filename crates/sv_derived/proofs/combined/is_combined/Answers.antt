use Rattle.std.proofs.Common.{false, refl, ap, rules}
use Rattle.std.specs.Prelude.{FitsSigned}
use Rattle.std.proofs.lemmas.Int.{to_z-of_z}
use Rattle.std.proofs.lemmas.List.{nil_from_length}
use mir.Syntax.{w128}
use Rattle.sv_log.specs.LogRows.{plain_monomial, row, IsCombined}
use Rattle.sv_row.specs.RowParts.{monomials}
use Rattle.sv_derived.proofs.Cancelling.{refuses}
use Rattle.sv_derived.proofs.Combining.{greatest_of, no_first, no_second, other_columns, not_cancelling, combined_is, cancels_read, row_sum_read}
use Rattle.sv_derived.proofs.combined.is_combined.Goals as goal

pub returns-in_default : goal.returns-in_default
returns-in_default c =
    refuses (IsCombined c.args.m (row c.args.j (monomials c.args.own.now)) c.args.n (row c.args.k (monomials c.args.other.now)) (row c.args.t (monomials c.args.made.now))) false refl
    (no_first c.args.m c.args.j (monomials c.args.own.now) c.args.n c.args.k (monomials c.args.other.now) c.args.t (monomials c.args.made.now)
    (ap monomials (nil_from_length c.args.own.now c.in_default.ensures.cases)))

pub returns-in_default-split_last : goal.returns-in_default-split_last
returns-in_default-split_last c =
    refuses (IsCombined c.args.m (row c.args.j (monomials c.args.own.now)) c.args.n (row c.args.k (monomials c.args.other.now)) (row c.args.t (monomials c.args.made.now))) false refl
    (no_second c.args.m c.args.j (monomials c.args.own.now) c.args.n c.args.k (monomials c.args.other.now) c.args.t (monomials c.args.made.now)
    (ap monomials (nil_from_length c.args.other.now c.in_default-split_last.ensures.cases)))

pub returns-then-x-y : goal.returns-then-x-y
returns-then-x-y c =
    refuses (IsCombined c.args.m (row c.args.j (monomials c.args.own.now)) c.args.n (row c.args.k (monomials c.args.other.now)) (row c.args.t (monomials c.args.made.now))) false refl
    (other_columns c.args.m c.args.j (monomials c.args.own.now) c.args.n c.args.k (monomials c.args.other.now) c.args.t (monomials c.args.made.now)
    (plain_monomial c.in-Some.field-0-0.now) (plain_monomial c.in-Some-split_last.field-0-0.now)
    (greatest_of c.args.own.now c.in-Some.field-0-1.now c.in-Some.field-0-0.now c.in-Some.ensures.cases.0)
    (greatest_of c.args.other.now c.in-Some-split_last.field-0-1.now c.in-Some-split_last.field-0-0.now c.in-Some-split_last.ensures.cases.0)
    c.if-x-y.true)

pub returns-then-not-cancel : goal.returns-then-not-cancel
returns-then-not-cancel c =
    let f : FitsSigned w128 c.in-Some.field-0-0.now.0 = search rules in
    let g : FitsSigned w128 c.in-Some-split_last.field-0-0.now.0 = search rules in
    refuses (IsCombined c.args.m (row c.args.j (monomials c.args.own.now)) c.args.n (row c.args.k (monomials c.args.other.now)) (row c.args.t (monomials c.args.made.now))) false refl
    (not_cancelling c.args.m c.args.j (monomials c.args.own.now) c.args.n c.args.k (monomials c.args.other.now) c.args.t (monomials c.args.made.now)
    (plain_monomial c.in-Some.field-0-0.now) (plain_monomial c.in-Some-split_last.field-0-0.now)
    (greatest_of c.args.own.now c.in-Some.field-0-1.now c.in-Some.field-0-0.now c.in-Some.ensures.cases.0)
    (greatest_of c.args.other.now c.in-Some-split_last.field-0-1.now c.in-Some-split_last.field-0-0.now c.in-Some-split_last.ensures.cases.0)
    c.cancel.result
    (cancels_read c.args.m c.args.n c.in-Some.field-0-0.now.0 c.in-Some-split_last.field-0-0.now.0 _ _ _ _ (to_z-of_z w128 c.args.m c.ranges.m) (to_z-of_z w128 c.args.n c.ranges.n)
    (to_z-of_z w128 c.in-Some.field-0-0.now.0 f) (to_z-of_z w128 c.in-Some-split_last.field-0-0.now.0 g) c.cancel.result c.cancel.ensures)
    c.if-not-cancel.true)

pub is_row_sum-requires-clause-positive : goal.is_row_sum-requires-clause-positive
is_row_sum-requires-clause-positive c = let d = c.cancel.ensures.0 c.if-not-cancel.false in (d.first, d.second)

pub is_row_sum-requires-clause-normal : goal.is_row_sum-requires-clause-normal
is_row_sum-requires-clause-normal c = c.requires

pub returns : goal.returns
returns c =
    let f : FitsSigned w128 c.in-Some.field-0-0.now.0 = search rules in
    let g : FitsSigned w128 c.in-Some-split_last.field-0-0.now.0 = search rules in
    let im = to_z-of_z w128 c.args.m c.ranges.m in
    let jn = to_z-of_z w128 c.args.n c.ranges.n in
    combined_is c.args.m c.args.j (monomials c.args.own.now) c.args.n c.args.k (monomials c.args.other.now) c.args.t (monomials c.args.made.now)
    (plain_monomial c.in-Some.field-0-0.now) (plain_monomial c.in-Some-split_last.field-0-0.now)
    (greatest_of c.args.own.now c.in-Some.field-0-1.now c.in-Some.field-0-0.now c.in-Some.ensures.cases.0)
    (greatest_of c.args.other.now c.in-Some-split_last.field-0-1.now c.in-Some-split_last.field-0-0.now c.in-Some-split_last.ensures.cases.0)
    c.is_row_sum.result c.if-x-y.false
    ((cancels_read c.args.m c.args.n c.in-Some.field-0-0.now.0 c.in-Some-split_last.field-0-0.now.0 _ _ _ _ im jn
    (to_z-of_z w128 c.in-Some.field-0-0.now.0 f) (to_z-of_z w128 c.in-Some-split_last.field-0-0.now.0 g) c.cancel.result c.cancel.ensures).0 c.if-not-cancel.false)
    (row_sum_read c.args.m c.args.j c.args.n c.args.k c.args.t _ _ _ _ _ im (to_z-of_z w128 c.args.j c.ranges.j) jn (to_z-of_z w128 c.args.k c.ranges.k) (to_z-of_z w128 c.args.t c.ranges.t)
    (monomials c.args.own.now) (monomials c.args.other.now) (monomials c.args.made.now) c.is_row_sum.result c.is_row_sum.ensures)
