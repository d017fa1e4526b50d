use Rattle.std.proofs.Common.{◌<◌, length, get_or, subst, arith}
use Rattle.std.proofs.lemmas.Option.{slice_get_within}
use Rattle.sv_cert.specs.PlainLogs.{plain_row}
use Rattle.sv_lin.specs.UnderWay.{force}
use Rattle.sv_lin.specs.Placing.{point_of, IsTightest}
use Rattle.sv_lin.proofs.ColumnLists.{take_all}
use Rattle.sv_lin.proofs.Entering.{contains_get}
use Rattle.sv_lin.proofs.Gathering.{same_default, contains_at}
use Rattle.sv_lin.proofs.Choosing.{nothing_yet, within_now, tighter_now, number_bound, number_exceeds}
use Rattle.sv_lin.proofs.point.tightest.Goals as goal

pub loop-number-init : goal.loop-number-init
loop-number-init c = record {
  within = λ i e. cc e;
  tight = λ x h. nothing_yet (force c.args.rows.now c.args.work.now.made.items) (point_of c.args.places.now) x c.args.side c.args.numbers.now;
}

pub row-requires : goal.row-requires
row-requires c =
    let l : c.loop-number.number-index < length c.args.numbers.now = omega arith in
    let q = get_or c.args.numbers.now c.loop-number.number-index 0 in
    let a = c.requires.there.1 q (contains_at c.args.numbers.now c.loop-number.number-index q l (same_default c.args.numbers.now c.loop-number.number-index 0 q l)) in
    slice_get_within (force c.args.rows.now c.args.work.now.made.items) q a.1 a.2

pub bound_at-requires-clause-normal : goal.bound_at-requires-clause-normal
bound_at-requires-clause-normal c =
    c.requires.placed.0.1 (plain_row c.row.result.now) (contains_get (force c.args.rows.now c.args.work.now.made.items) (get_or c.args.numbers.now c.loop-number.number-index 0) (plain_row c.row.result.now) c.row.ensures)

pub returns-in-None : goal.returns-in-None
returns-in-None c x h =
    let l : c.loop-number.number-index < length c.args.numbers.now = omega arith in
    let q = get_or c.args.numbers.now c.loop-number.number-index 0 in
    let i = contains_at c.args.numbers.now c.loop-number.number-index q l (same_default c.args.numbers.now c.loop-number.number-index 0 q l) in
    let e = number_exceeds (force c.args.rows.now c.args.work.now.made.items) (point_of c.args.places.now) x q (plain_row c.row.result.now) c.bound_at.result c.row.ensures c.in-None.is c.bound_at.ensures (h q i) in
    (i, e.0, e.1, e.2)

pub loop-number-preserved : goal.loop-number-preserved
loop-number-preserved c = record {
  within = within_now c.args.side c.loop-number.best c.tighter-best.result c.in-Some.bound c.tighter-best.ensures;
  tight = λ x h.
      let l : c.loop-number.number-index < length c.args.numbers.now = omega arith in
      let q = get_or c.args.numbers.now c.loop-number.number-index 0 in
      let s = same_default c.args.numbers.now c.loop-number.number-index 0 q l in
      let i = contains_at c.args.numbers.now c.loop-number.number-index q l s in
      tighter_now (force c.args.rows.now c.args.work.now.made.items) (point_of c.args.places.now) x c.args.side c.args.numbers.now c.loop-number.number-index q l s c.in-Some.bound
      (number_bound (force c.args.rows.now c.args.work.now.made.items) (point_of c.args.places.now) x q (plain_row c.row.result.now) c.bound_at.result c.in-Some.bound c.row.ensures c.in-Some.is c.bound_at.ensures (h q i))
      c.loop-number.best c.tighter-best.result c.loop-number.invariant.within (c.loop-number.invariant.tight x h) c.tighter-best.ensures;
}

pub returns : goal.returns
returns c x h =
    subst (λ z. IsTightest (force c.args.rows.now c.args.work.now.made.items) (point_of c.args.places.now) x c.args.side z c.loop-number.best) (take_all c.args.numbers.now c.loop-number.number-index (omega arith)) (c.loop-number.invariant.tight x h)
