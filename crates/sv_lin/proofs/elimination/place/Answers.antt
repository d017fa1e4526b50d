use Rattle.std.proofs.Common.{map, sym, subst, arith}
use Rattle.sv_lin.specs.Eliminations.{IsPoint, IsExceedingValue}
use Rattle.sv_lin.specs.UnderWay.{given, force, entries_of}
use Rattle.sv_lin.specs.Placing.{placed}
use Rattle.sv_lin.proofs.Forces.{room}
use Rattle.sv_lin.proofs.Answering.{of_columns, is_point, exceeds_value, is_excess, small_number, at_all, at_stop, point_answers, value_answers}
use Rattle.sv_lin.proofs.elimination.place.Goals as goal

pub place_columns-requires-clause-readable : goal.place_columns-requires-clause-readable
place_columns-requires-clause-readable c = (let r = room c.args.rows.now c.requires.limit c.args.work.made.items c.requires.way in omega (arith, r), c.requires.way.normal)

pub place_columns-requires-clause-rising : goal.place_columns-requires-clause-rising
place_columns-requires-clause-rising c = c.requires.columns.rising

pub place_columns-requires-clause-complete : goal.place_columns-requires-clause-complete
place_columns-requires-clause-complete c = (c.requires.complete, c.requires.way.none)

pub place_columns-requires-clause-within : goal.place_columns-requires-clause-within
place_columns-requires-clause-within c = of_columns (given c.args.rows.now) c.requires.limit (entries_of c.args.work.made.items) c.requires.way c.args.columns.now c.requires.columns

pub returns-in-All : goal.returns-in-All
returns-in-All c =
    let p = at_all (force c.args.rows.now c.args.work.made.items) c.args.columns.now c.in_ok-placing.placing c.in-All.places c.in-All.is c.in_ok-placing.ensures in
    point_answers c.with_point.result (given c.args.rows.now) (entries_of c.args.work.made.items) (map placed c.as_slice.result.now) c.with_point.ensures
    (subst (λ ps. IsPoint (given c.args.rows.now) (entries_of c.args.work.made.items) (map placed ps)) (sym c.as_slice.ensures.value)
    (is_point (given c.args.rows.now) c.requires.limit (entries_of c.args.work.made.items) c.requires.way c.args.columns.now c.requires.columns c.requires.complete c.requires.divided c.in-All.places.items p))

pub with_value-requires : goal.with_value-requires
with_value-requires c =
    let s = at_stop (force c.args.rows.now c.args.work.made.items) c.args.columns.now c.in_ok-placing.placing c.in-Exceeds.number c.in-Exceeds.places c.in-Exceeds.is c.in_ok-placing.ensures in
    small_number c.args.rows.now c.requires.limit c.args.work.made.items c.in-Exceeds.number s.row c.requires.way s.is

pub returns-in-Exceeds : goal.returns-in-Exceeds
returns-in-Exceeds c =
    let s = at_stop (force c.args.rows.now c.args.work.made.items) c.args.columns.now c.in_ok-placing.placing c.in-Exceeds.number c.in-Exceeds.places c.in-Exceeds.is c.in_ok-placing.ensures in
    value_answers c.with_value.result (given c.args.rows.now) (entries_of c.args.work.made.items) c.in-Exceeds.number (map placed c.as_slice-in-Exceeds.result.now) c.with_value.ensures
    (is_excess (given c.args.rows.now) c.requires.limit (entries_of c.args.work.made.items) c.requires.way c.requires.divided)
    (subst (λ ps. IsExceedingValue (given c.args.rows.now) (entries_of c.args.work.made.items) c.in-Exceeds.number (map placed ps)) (sym c.as_slice-in-Exceeds.ensures.value)
    (exceeds_value (given c.args.rows.now) c.requires.limit (entries_of c.args.work.made.items) c.requires.way c.args.columns.now c.requires.columns c.requires.complete c.requires.divided c.in-Exceeds.places.items c.in-Exceeds.number s))
