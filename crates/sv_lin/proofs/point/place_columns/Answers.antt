use Rattle.std.proofs.Common.{◌<◌, ◌∙◌, ◌∷◌, [], length, map, get_or, sym, ap, subst, arith}
use Rattle.std.proofs.lemmas.List.{map-append}
use Rattle.sv_lin.specs.UnderWay.{force}
use Rattle.sv_lin.specs.Placing.{placed, point_of, AreReduced, ArePlaced, IsFractionAt, DoesExceed}
use Rattle.sv_lin.proofs.ColumnLists.{take_all}
use Rattle.sv_lin.proofs.Gathering.{same_default}
use Rattle.sv_lin.proofs.Choosing.{nothing_placed, one_more_place, stops_here, at_ok, at_err}
use Rattle.sv_lin.proofs.point.place_columns.Goals as goal

pub loop-column-init : goal.loop-column-init
loop-column-init c = subst (ArePlaced (force c.args.rows.now c.args.work.now.made.items) _) (sym c.new-places.ensures.items) (nothing_placed (force c.args.rows.now c.args.work.now.made.items) c.args.columns.now)

pub fraction_at-requires : goal.fraction_at-requires
fraction_at-requires c = (c.requires.readable, subst (λ ps. AreReduced (point_of ps)) (sym c.as_slice.ensures.value) c.loop-column.invariant.reduced)

pub loop-column-preserved : goal.loop-column-preserved
loop-column-preserved c =
    let l : c.loop-column.column-index < length c.args.columns.now = omega arith in
    let x = get_or c.args.columns.now c.loop-column.column-index 0 in
    one_more_place (force c.args.rows.now c.args.work.now.made.items) c.requires.readable.1 c.requires.complete.1 c.requires.complete.0 c.args.columns.now c.requires.rising c.requires.within c.loop-column.column-index x l
    (same_default c.args.columns.now c.loop-column.column-index 0 x l) c.loop-column.places.items c.loop-column.invariant c.in-Ok.value
    (subst (λ ps. IsFractionAt (force c.args.rows.now c.args.work.now.made.items) (point_of ps) x c.in-Ok.value) c.as_slice.ensures.value
    (at_ok c.in_ok-found.found (λ f. IsFractionAt (force c.args.rows.now c.args.work.now.made.items) (point_of c.as_slice.result.now) x f) (λ i. DoesExceed (force c.args.rows.now c.args.work.now.made.items) (point_of c.as_slice.result.now) x i) c.in-Ok.value c.in-Ok.is c.in_ok-found.ensures))
    c.push.new.self.items
    (ap (λ ps. map placed ps) c.in_ok-push-in-Ok.ensures.items ∙ map-append placed c.loop-column.places.items (record { column = x; value = c.in-Ok.value } ∷ []))

pub returns-in-Err : goal.returns-in-Err
returns-in-Err c =
    let l : c.loop-column.column-index < length c.args.columns.now = omega arith in
    let x = get_or c.args.columns.now c.loop-column.column-index 0 in
    stops_here (force c.args.rows.now c.args.work.now.made.items) c.requires.readable.1 c.requires.complete.1 c.requires.complete.0 c.args.columns.now c.requires.rising c.requires.within c.loop-column.column-index x l
    (same_default c.args.columns.now c.loop-column.column-index 0 x l) c.loop-column.places.items c.loop-column.invariant c.in-Err.number
    (subst (λ ps. DoesExceed (force c.args.rows.now c.args.work.now.made.items) (point_of ps) x c.in-Err.number) c.as_slice.ensures.value
    (at_err c.in_ok-found.found (λ f. IsFractionAt (force c.args.rows.now c.args.work.now.made.items) (point_of c.as_slice.result.now) x f) (λ i. DoesExceed (force c.args.rows.now c.args.work.now.made.items) (point_of c.as_slice.result.now) x i) c.in-Err.number c.in-Err.is c.in_ok-found.ensures))

pub returns : goal.returns
returns c = subst (λ cs. ArePlaced (force c.args.rows.now c.args.work.now.made.items) cs c.loop-column.places.items) (take_all c.args.columns.now c.loop-column.column-index (omega arith)) c.loop-column.invariant
