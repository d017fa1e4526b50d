use Rattle.std.proofs.Common.{refl, subst, rules}
use Rattle.std.specs.Prelude.{FitsSigned}
use Rattle.std.proofs.lemmas.Int.{to_z-of_z}
use mir.Syntax.{w128}
use Rattle.sv_row.specs.RowParts.{monomials}
use Rattle.sv_point.specs.NearestPoints.{IsWorth}
use Rattle.sv_cert.specs.PlainLogs.{plain_row}
use Rattle.sv_lin.specs.Eliminations.{ExceedsWorth}
use Rattle.sv_lin.specs.Placing.{point_of}
use Rattle.sv_lin.proofs.Bounding.{no_row, exceeds_worth, bound_made}
use Rattle.sv_lin.proofs.Gathering.{not_zero_at}
use Rattle.sv_lin.proofs.Lasts.{row_at_last}
use Rattle.sv_lin.proofs.place.bound_at.Goals as goal

pub returns-in_default : goal.returns-in_default
returns-in_default c x k t = absurd (no_row c.args.row.now c.as_slice.result.now x k c.as_slice.ensures c.in_default.ensures.cases t)

pub returns-in_default-worked : goal.returns-in_default-worked
returns-in_default-worked c x k t =
    let g : FitsSigned w128 c.args.row.now.constant = search rules in
    exceeds_worth (point_of c.args.places.now) c.args.row.now c.as_slice.result.now c.in-Some.lows.now c.in-Some.field-0-0.now _ c.as_slice.ensures c.in-Some.ensures.cases.0 (to_z-of_z w128 c.args.row.now.constant g)
    (subst (λ f. ExceedsWorth (point_of c.args.places.now) f (monomials c.in-Some.lows.now)) c.whole.ensures c.in_default-worked.ensures) x k t

pub bound-requires : goal.bound-requires
bound-requires c =
    let f : FitsSigned w128 c.in-Some.field-0-0.now.0 = search rules in
    let e = to_z-of_z w128 c.in-Some.field-0-0.now.0 f in
    not_zero_at c.in-Some.field-0-0.now.1 _ (plain_row c.args.row.now) (row_at_last c.args.row.now c.as_slice.result.now c.in-Some.lows.now c.in-Some.field-0-0.now _ c.in-Some.field-0-0.now.1 c.as_slice.ensures c.in-Some.ensures.cases.0 refl e c.requires.normal) c.requires.normal

pub returns : goal.returns
returns c x k t =
    let f : FitsSigned w128 c.in-Some.field-0-0.now.0 = search rules in
    let g : FitsSigned w128 c.args.row.now.constant = search rules in
    bound_made (point_of c.args.places.now) c.args.row.now c.as_slice.result.now c.in-Some.lows.now c.in-Some.field-0-0.now _ _ c.in-Some-worked.rest c.bound.result (λ y. (c.requires.reduced y).positive) c.as_slice.ensures c.in-Some.ensures.cases.0
    (to_z-of_z w128 c.args.row.now.constant g) (to_z-of_z w128 c.in-Some.field-0-0.now.0 f)
    (subst (λ h. IsWorth (point_of c.args.places.now) h (monomials c.in-Some.lows.now) c.in-Some-worked.rest) c.whole.ensures c.in-Some-worked.ensures) c.bound.ensures x k t
