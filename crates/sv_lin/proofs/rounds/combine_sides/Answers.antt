use Rattle.std.proofs.Common.{◌<◌, ◌≡◌, length, get_or, subst, arith}
use Rattle.sv_lin.specs.UnderWay.{given, force, entries_of, CombinesFirstOf}
use Rattle.sv_lin.specs.Holding.{CombinesRow, Crosses}
use Rattle.sv_lin.proofs.Gathering.{at_on, ends_other, same_default, no_all_pairs, all_pairs_now, one_of_pairs, more_all_pairs}
use Rattle.sv_lin.proofs.rounds.combine_sides.Goals as goal

pub combine_with_lowers-requires-clause-pairs : goal.combine_with_lowers-requires-clause-pairs
combine_with_lowers-requires-clause-pairs c =
    let l : c.loop-upper.upper-index < length c.args.uppers.now = omega arith in
    let x = c.requires.pairs.0 in (
      x,
      one_of_pairs (force c.args.rows.now c.loop-upper.work.made.items) c.loop-upper.upper-index _ c.args.uppers.now c.args.lowers.now l (same_default c.args.uppers.now c.loop-upper.upper-index 0 (get_or c.args.uppers.now c.loop-upper.upper-index 0) l) x
          (all_pairs_now (force c.args.rows.now c.args.work.now.made.items) (force c.args.rows.now c.loop-upper.work.made.items) c.loop-upper.upper-index c.args.uppers.now c.args.lowers.now c.loop-upper.invariant.sums x c.requires.pairs.1),
    )

pub loop-upper-preserved : goal.loop-upper-preserved
loop-upper-preserved c =
    let l : c.loop-upper.upper-index < length c.args.uppers.now = omega arith in
    let p = get_or c.args.uppers.now c.loop-upper.upper-index 0 in
    let w = at_on (given c.args.rows.now) c.args.limit (entries_of c.combine_with_lowers.new.work.made.items) (CombinesRow p c.args.lowers.now (force c.args.rows.now c.loop-upper.work.made.items) (force c.args.rows.now c.combine_with_lowers.new.work.made.items)) c.in_ok-outcome.outcome c.in-On.is c.in_ok-outcome.ensures in record {
      way = w.0;
      divided = w.1.1;
      sums = more_all_pairs (force c.args.rows.now c.args.work.now.made.items) (force c.args.rows.now c.loop-upper.work.made.items) (force c.args.rows.now c.combine_with_lowers.new.work.made.items) c.loop-upper.upper-index p c.args.uppers.now c.args.lowers.now l (same_default c.args.uppers.now c.loop-upper.upper-index 0 p l) c.loop-upper.invariant.sums w.1.0;
    }

pub returns : goal.returns
returns c =
    let e : c.loop-upper.upper-index ≡ length c.args.uppers.now = omega arith in (
      c.loop-upper.invariant.way,
      (
        subst (λ n. CombinesFirstOf n c.args.uppers.now c.args.lowers.now (force c.args.rows.now c.args.work.now.made.items) (force c.args.rows.now c.loop-upper.work.made.items)) e c.loop-upper.invariant.sums,
        c.loop-upper.invariant.divided,
      ),
    )

pub returns-in_default : goal.returns-in_default
returns-in_default c =
    let p = get_or c.args.uppers.now c.loop-upper.upper-index 0 in
    ends_other (given c.args.rows.now) c.args.limit (entries_of c.combine_with_lowers.new.work.made.items) (CombinesRow p c.args.lowers.now (force c.args.rows.now c.loop-upper.work.made.items) (force c.args.rows.now c.combine_with_lowers.new.work.made.items))
    (Crosses c.args.uppers.now c.args.lowers.now (force c.args.rows.now c.args.work.now.made.items) (force c.args.rows.now c.combine_with_lowers.new.work.made.items)) c.in_ok-outcome.outcome c.in_default.not-On c.in_ok-outcome.ensures

pub loop-upper-init : goal.loop-upper-init
loop-upper-init c = record { way = c.requires.way.0; divided = c.requires.way.1; sums = no_all_pairs c.args.uppers.now c.args.lowers.now (force c.args.rows.now c.args.work.now.made.items) }

pub combine_with_lowers-requires-clause-way : goal.combine_with_lowers-requires-clause-way
combine_with_lowers-requires-clause-way c = (c.loop-upper.invariant.way, c.loop-upper.invariant.divided)
