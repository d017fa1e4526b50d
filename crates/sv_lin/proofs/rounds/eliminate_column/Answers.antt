use Rattle.std.proofs.Common.{subst, arith}
use Rattle.std.specs.List.{Contains}
use Rattle.sv_lin.proofs.Forces.{room}
use Rattle.sv_lin.proofs.Making.{column_ends}
use Rattle.sv_lin.proofs.rounds.eliminate_column.Goals as goal

pub sides_of-requires : goal.sides_of-requires
sides_of-requires c = (let r = room c.args.rows.now c.args.limit c.args.work.now.made.items c.requires.0 in omega (arith, r), c.requires.0.normal)

pub combine_sides-requires-clause-pairs : goal.combine_sides-requires-clause-pairs
combine_sides-requires-clause-pairs c = (
  c.args.column,
  (
    λ p h. c.in_ok-sides.ensures.uppers_are p (subst (λ z. Contains z p) c.as_slice.ensures.value h),
    λ q h. c.in_ok-sides.ensures.lowers_are q (subst (λ z. Contains z q) c.as_slice-2.ensures.value h),
  ),
)

pub returns : goal.returns
returns c =
    column_ends c.combine_sides.result c.args.rows.now c.args.limit c.args.work.now.made.items c.combine_sides.new.work.made.items c.args.column
    c.in_ok-sides.sides.uppers.items c.in_ok-sides.sides.lowers.items c.as_slice.result.now c.as_slice-2.result.now c.as_slice.ensures.value c.as_slice-2.ensures.value c.in_ok-sides.ensures c.combine_sides.ensures
