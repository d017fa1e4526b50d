use Rattle.std.proofs.Common.{◌<◌, ◌≡◌, length, get_or, subst, arith}
use Rattle.sv_lin.specs.UnderWay.{given, force, entries_of, CombinesFirst}
use Rattle.sv_lin.specs.Holding.{CombinesPair, CombinesRow}
use Rattle.sv_lin.proofs.Gathering.{at_on, ends_other, same_default, no_pairs, pairs_now, one_pair, more_pairs}
use Rattle.sv_lin.proofs.rounds.combine_with_lowers.Goals as goal

pub combine-requires-clause-pair : goal.combine-requires-clause-pair
combine-requires-clause-pair c =
    let l : c.loop-lower.lower-index < length c.args.lowers.now = omega arith in
    let x = c.requires.pairs.0 in (
      x,
      one_pair (force c.args.rows.now c.loop-lower.work.made.items) c.args.upper c.loop-lower.lower-index _ c.args.lowers.now l (same_default c.args.lowers.now c.loop-lower.lower-index 0 (get_or c.args.lowers.now c.loop-lower.lower-index 0) l) x
          (pairs_now (force c.args.rows.now c.args.work.now.made.items) (force c.args.rows.now c.loop-lower.work.made.items) c.args.upper c.loop-lower.lower-index c.args.lowers.now c.loop-lower.invariant.sums x c.requires.pairs.1),
    )

pub loop-lower-preserved : goal.loop-lower-preserved
loop-lower-preserved c =
    let l : c.loop-lower.lower-index < length c.args.lowers.now = omega arith in
    let q = get_or c.args.lowers.now c.loop-lower.lower-index 0 in
    let w = at_on (given c.args.rows.now) c.args.limit (entries_of c.combine.new.work.made.items) (CombinesPair c.args.upper q (force c.args.rows.now c.loop-lower.work.made.items) (force c.args.rows.now c.combine.new.work.made.items)) c.in_ok-outcome.outcome c.in-On.is c.in_ok-outcome.ensures in record {
      way = w.0;
      divided = w.1.1;
      sums = more_pairs (force c.args.rows.now c.args.work.now.made.items) (force c.args.rows.now c.loop-lower.work.made.items) (force c.args.rows.now c.combine.new.work.made.items) c.args.upper c.loop-lower.lower-index q c.args.lowers.now l (same_default c.args.lowers.now c.loop-lower.lower-index 0 q l) c.loop-lower.invariant.sums w.1.0;
    }

pub returns : goal.returns
returns c =
    let e : c.loop-lower.lower-index ≡ length c.args.lowers.now = omega arith in (
      c.loop-lower.invariant.way,
      (
        subst (λ n. CombinesFirst n c.args.upper c.args.lowers.now (force c.args.rows.now c.args.work.now.made.items) (force c.args.rows.now c.loop-lower.work.made.items)) e c.loop-lower.invariant.sums,
        c.loop-lower.invariant.divided,
      ),
    )

pub returns-in_default : goal.returns-in_default
returns-in_default c =
    let q = get_or c.args.lowers.now c.loop-lower.lower-index 0 in
    ends_other (given c.args.rows.now) c.args.limit (entries_of c.combine.new.work.made.items) (CombinesPair c.args.upper q (force c.args.rows.now c.loop-lower.work.made.items) (force c.args.rows.now c.combine.new.work.made.items))
    (CombinesRow c.args.upper c.args.lowers.now (force c.args.rows.now c.args.work.now.made.items) (force c.args.rows.now c.combine.new.work.made.items)) c.in_ok-outcome.outcome c.in_default.not-On c.in_ok-outcome.ensures

pub loop-lower-init : goal.loop-lower-init
loop-lower-init c = record { way = c.requires.way.0; divided = c.requires.way.1; sums = no_pairs c.args.upper c.args.lowers.now (force c.args.rows.now c.args.work.now.made.items) }

pub combine-requires-clause-way : goal.combine-requires-clause-way
combine-requires-clause-way c = (c.loop-lower.invariant.way, c.loop-lower.invariant.divided)
