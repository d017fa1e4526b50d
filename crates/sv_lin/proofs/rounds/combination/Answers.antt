use Rattle.std.proofs.Common.{refl, rules}
use Rattle.std.specs.Prelude.{FitsSigned}
use Rattle.std.proofs.lemmas.Int.{to_z-of_z}
use mir.Syntax.{w128}
use Rattle.sv_cert.specs.PlainLogs.{plain_row}
use Rattle.sv_lin.specs.UnderWay.{force}
use Rattle.sv_lin.proofs.Combining.{at_none, at_some}
use Rattle.sv_lin.proofs.Making.{can_cancel_by, exceeding, summed, first_there, second_there}
use Rattle.sv_lin.proofs.rounds.combination.Goals as goal

pub row-first-requires : goal.row-first-requires
row-first-requires c = first_there (force c.args.rows.now c.args.work.now.made.items) c.args.upper c.args.lower c.requires.pair

pub row-second-requires : goal.row-second-requires
row-second-requires c = second_there (force c.args.rows.now c.args.work.now.made.items) c.args.upper c.args.lower c.requires.pair

pub combine_rows-requires : goal.combine_rows-requires
combine_rows-requires c =
    let f : FitsSigned w128 c.row-first.result.now.constant = search rules in
    let g : FitsSigned w128 c.row-second.result.now.constant = search rules in
    can_cancel_by (force c.args.rows.now c.args.work.now.made.items) c.args.upper c.args.lower c.row-first.result.now c.row-second.result.now _ _ c.as_slice.result.now c.as_slice-2.result.now
    (to_z-of_z w128 c.row-first.result.now.constant f) c.as_slice.ensures (to_z-of_z w128 c.row-second.result.now.constant g) c.as_slice-2.ensures
    c.requires.normal c.requires.pair c.row-first.ensures c.row-second.ensures

pub returns-in_default : goal.returns-in_default
returns-in_default c =
    let f : FitsSigned w128 c.row-first.result.now.constant = search rules in
    let g : FitsSigned w128 c.row-second.result.now.constant = search rules in
    exceeding (force c.args.rows.now c.args.work.now.made.items) c.args.upper c.args.lower c.row-first.result.now c.row-second.result.now _ _ c.as_slice.result.now c.as_slice-2.result.now
    (to_z-of_z w128 c.row-first.result.now.constant f) c.as_slice.ensures (to_z-of_z w128 c.row-second.result.now.constant g) c.as_slice-2.ensures
    c.row-first.ensures c.row-second.ensures (at_none c.in_ok-sum.sum _ _ c.in_default.is c.in_ok-sum.ensures)

pub returns : goal.returns
returns c =
    let f : FitsSigned w128 c.row-first.result.now.constant = search rules in
    let g : FitsSigned w128 c.row-second.result.now.constant = search rules in
    let fm : FitsSigned w128 c.in-Some.sum.m = search rules in
    let fn : FitsSigned w128 c.in-Some.sum.n = search rules in
    let ft : FitsSigned w128 c.in-Some.sum.constant = search rules in (
      _,
      _,
      refl,
      plain_row c.row-first.result.now,
      plain_row c.row-second.result.now,
      c.row-first.ensures,
      c.row-second.ensures,
      summed c.row-first.result.now c.row-second.result.now _ _ c.in-Some.sum.m c.in-Some.sum.n _ _ c.in-Some.sum.constant _ c.as_slice.result.now c.as_slice-2.result.now c.in-Some.sum.parts.items c.from_vec.result
          (to_z-of_z w128 c.row-first.result.now.constant f) c.as_slice.ensures (to_z-of_z w128 c.row-second.result.now.constant g) c.as_slice-2.ensures
          (to_z-of_z w128 c.in-Some.sum.m fm) (to_z-of_z w128 c.in-Some.sum.n fn) (to_z-of_z w128 c.in-Some.sum.constant ft) c.from_vec.ensures
          (at_some c.in_ok-sum.sum _ _ c.in-Some.sum c.in-Some.is c.in_ok-sum.ensures),
    )
