use Rattle.std.proofs.Common.{false, refl, sym, ap, subst, rules}
use lib.IntN.{pos}
use lib.Signed.{◌<ℤ◌}
use Rattle.std.specs.Prelude.{FitsSigned}
use Rattle.std.proofs.lemmas.Int.{to_z-of_z}
use mir.Syntax.{w128}
use mir.Val.{of_z}
use Rattle.sv_row.specs.RowParts.{monomials}
use Rattle.sv_derived.specs.RowSums.{IsRowSum}
use Rattle.sv_derived.proofs.Cancelling.{refuses, same_signed}
use Rattle.sv_derived.proofs.Combining.{fits_read, other_constant, row_sum_is, sum_read_back}
use Rattle.sv_derived.proofs.combined.is_row_sum.Goals as goal

pub returns-in_default : goal.returns-in_default
returns-in_default c =
    refuses (IsRowSum c.args.m c.args.j (monomials c.args.own.now) c.args.n c.args.k (monomials c.args.other.now) c.args.t (monomials c.args.made.now)) false refl
    (λ s. cc (c.in_default.ensures.exact.1 (fits_read c.args.m c.args.j c.args.n c.args.k _ _ _ _ (to_z-of_z w128 c.args.m c.ranges.m) (to_z-of_z w128 c.args.j c.ranges.j) (to_z-of_z w128 c.args.n c.ranges.n) (to_z-of_z w128 c.args.k c.ranges.k)
    (monomials c.args.own.now) (monomials c.args.other.now) c.args.t (monomials c.args.made.now) s)))

pub returns-then-constant-t : goal.returns-then-constant-t
returns-then-constant-t c =
    refuses (IsRowSum c.args.m c.args.j (monomials c.args.own.now) c.args.n c.args.k (monomials c.args.other.now) c.args.t (monomials c.args.made.now)) false refl
    (other_constant c.args.m c.args.j c.args.n c.args.k _ _ _ _ (to_z-of_z w128 c.args.m c.ranges.m) (to_z-of_z w128 c.args.j c.ranges.j) (to_z-of_z w128 c.args.n c.ranges.n) (to_z-of_z w128 c.args.k c.ranges.k)
    (monomials c.args.own.now) (monomials c.args.other.now) c.args.t (monomials c.args.made.now) c.in-Some.constant c.in-Some.ensures.value (λ e. c.if-constant-t.true (ap (of_z w128) e)))

pub is_sum-requires-clause-positive : goal.is_sum-requires-clause-positive
is_sum-requires-clause-positive c =
    (subst (λ z. pos 0 <ℤ z) (sym (to_z-of_z w128 c.args.m c.ranges.m)) c.requires.positive.0, subst (λ z. pos 0 <ℤ z) (sym (to_z-of_z w128 c.args.n c.ranges.n)) c.requires.positive.1)

pub returns : goal.returns
returns c =
    let f : FitsSigned w128 c.in-Some.constant = search rules in
    row_sum_is c.args.m c.args.j c.args.n c.args.k _ _ _ _ (to_z-of_z w128 c.args.m c.ranges.m) (to_z-of_z w128 c.args.j c.ranges.j) (to_z-of_z w128 c.args.n c.ranges.n) (to_z-of_z w128 c.args.k c.ranges.k)
    (monomials c.args.own.now) (monomials c.args.other.now) c.args.t (monomials c.args.made.now) c.in-Some.constant c.is_sum.result c.in-Some.ensures.value
    (same_signed c.in-Some.constant c.args.t f c.ranges.t c.if-constant-t.false) (c.in-Some.ensures.exact.0 refl)
    (sum_read_back c.args.m c.args.n _ _ (to_z-of_z w128 c.args.m c.ranges.m) (to_z-of_z w128 c.args.n c.ranges.n) (monomials c.args.own.now) (monomials c.args.other.now) (monomials c.args.made.now) c.is_sum.result c.is_sum.ensures)

pub is_sum-requires-clause-normal : goal.is_sum-requires-clause-normal
is_sum-requires-clause-normal c = c.requires.normal
