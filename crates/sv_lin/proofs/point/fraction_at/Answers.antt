use Rattle.std.proofs.Common.{subst}
use Rattle.std.specs.List.{Contains}
use Rattle.sv_lin.specs.UnderWay.{force}
use Rattle.sv_lin.specs.Placing.{point_of}
use Rattle.sv_lin.proofs.Choosing.{fraction_found}
use Rattle.sv_lin.proofs.point.fraction_at.Goals as goal

pub tightest-upper-requires-clause-there : goal.tightest-upper-requires-clause-there
tightest-upper-requires-clause-there c = (
  c.args.column,
  λ p h. let u = c.in_ok-sides.ensures.uppers_are p (subst (λ z. Contains z p) c.as_slice.ensures.value h) in (u.0, u.1, u.2, u.3),
)

pub tightest-lower-requires-clause-there : goal.tightest-lower-requires-clause-there
tightest-lower-requires-clause-there c = (
  c.args.column,
  λ p h. let u = c.in_ok-sides.ensures.lowers_are p (subst (λ z. Contains z p) c.as_slice-2.ensures.value h) in (u.0, u.1, u.2, u.3),
)

pub returns : goal.returns
returns c =
    fraction_found (force c.args.rows.now c.args.work.now.made.items) (point_of c.args.places.now) c.args.column c.in_ok-sides.sides.uppers.items c.in_ok-sides.sides.lowers.items c.as_slice.result.now c.as_slice-2.result.now
    c.tightest-upper.result c.tightest-lower.result c.between.result c.as_slice.ensures.value c.as_slice-2.ensures.value c.in_ok-sides.ensures
    (c.tightest-upper.ensures c.args.column (λ p h. let u = c.in_ok-sides.ensures.uppers_are p (subst (λ z. Contains z p) c.as_slice.ensures.value h) in (u.0, u.1, u.2, u.3)))
    (c.tightest-lower.ensures c.args.column (λ p h. let u = c.in_ok-sides.ensures.lowers_are p (subst (λ z. Contains z p) c.as_slice-2.ensures.value h) in (u.0, u.1, u.2, u.3)))
    c.between.ensures
