use Rattle.std.proofs.Common.{false, refl, ap, rules}
use Rattle.std.specs.Prelude.{FitsSigned}
use Rattle.std.proofs.lemmas.Int.{to_z-of_z}
use mir.Syntax.{w128}
use mir.Val.{of_z}
use Rattle.sv_log.specs.LogRows.{row, IsDivided}
use Rattle.sv_row.specs.RowParts.{monomials}
use Rattle.sv_derived.proofs.Cancelling.{refuses, same_signed}
use Rattle.sv_derived.proofs.Dividing.{small_divisor, positive_divisor, large_divisor, too_small, divided_is, not_divided, parts_read}
use Rattle.sv_derived.proofs.divided.is_divided.Goals as goal

pub returns-then-d-lt2 : goal.returns-then-d-lt2
returns-then-d-lt2 c =
    refuses (IsDivided c.args.d (row c.args.k (monomials c.args.own.now)) (row c.args.t (monomials c.args.made.now))) false refl
    (too_small c.args.d c.args.k c.args.t _ _ (to_z-of_z w128 c.args.d c.ranges.d) (to_z-of_z w128 c.args.k c.ranges.k) (monomials c.args.own.now) (monomials c.args.made.now)
    (small_divisor c.args.d _ (to_z-of_z w128 c.args.d c.ranges.d) c.if-d-lt2.true))

pub ceil_div-requires : goal.ceil_div-requires
ceil_div-requires c = positive_divisor _ c.if-d-lt2.false

pub returns-then-ceil_div-t : goal.returns-then-ceil_div-t
returns-then-ceil_div-t c =
    refuses (IsDivided c.args.d (row c.args.k (monomials c.args.own.now)) (row c.args.t (monomials c.args.made.now))) false refl
    (not_divided c.args.d c.args.k c.args.t _ _ (to_z-of_z w128 c.args.d c.ranges.d) (to_z-of_z w128 c.args.k c.ranges.k) (monomials c.args.own.now) (monomials c.args.made.now)
    c.ceil_div.result (large_divisor c.args.d _ (to_z-of_z w128 c.args.d c.ranges.d) c.if-d-lt2.false) c.ceil_div.ensures (λ e. c.if-ceil_div-t.true (ap (of_z w128) e)))

pub returns : goal.returns
returns c =
    let f : FitsSigned w128 c.ceil_div.result = search rules in
    divided_is c.args.d c.args.k c.args.t _ _ (to_z-of_z w128 c.args.d c.ranges.d) (to_z-of_z w128 c.args.k c.ranges.k) (monomials c.args.own.now) (monomials c.args.made.now)
    c.ceil_div.result (large_divisor c.args.d _ (to_z-of_z w128 c.args.d c.ranges.d) c.if-d-lt2.false) c.ceil_div.ensures c.are_multiples.result
    (same_signed c.ceil_div.result c.args.t f c.ranges.t c.if-ceil_div-t.false)
    (parts_read c.args.d _ (to_z-of_z w128 c.args.d c.ranges.d) (monomials c.args.own.now) (monomials c.args.made.now) c.are_multiples.result c.are_multiples.ensures)
