use Rattle.std.proofs.Common.{◌<◌, length, arith}
use Rattle.sv_lin.specs.UnderWay.{given, force, entries_of}
use Rattle.sv_lin.specs.Holding.{DividesRow, DividesAll}
use Rattle.sv_lin.proofs.Dividing.{no_firsts, one_more_first, all_firsts}
use Rattle.sv_lin.proofs.Forces.{length_force}
use Rattle.sv_lin.proofs.Gathering.{at_on, ends_other}
use Rattle.sv_lin.proofs.rounds.divide_given.Goals as goal

pub loop-number-init : goal.loop-number-init
loop-number-init c = record { way = c.requires.way; firsts = no_firsts c.args.rows.now c.args.work.now.made.items c.requires.start }

pub divide-requires-clause-way : goal.divide-requires-clause-way
divide-requires-clause-way c = c.loop-number.invariant.way

pub divide-requires-clause-there : goal.divide-requires-clause-there
divide-requires-clause-there c =
    let a = length_force c.args.rows.now c.loop-number.work.made.items in
    let b : c.loop-number.number < length c.args.rows.now = omega arith in
    omega (arith, a, b)

pub loop-number-preserved : goal.loop-number-preserved
loop-number-preserved c =
    let w = at_on (given c.args.rows.now) c.args.limit (entries_of c.divide.new.work.made.items) (DividesRow c.loop-number.number (force c.args.rows.now c.loop-number.work.made.items) (force c.args.rows.now c.divide.new.work.made.items)) c.in_ok-outcome.outcome c.in-On.is c.in_ok-outcome.ensures in record {
      way = w.0;
      firsts = one_more_first c.args.rows.now c.loop-number.work.made.items c.divide.new.work.made.items c.loop-number.number c.loop-number.invariant.firsts w.1;
    }

pub returns : goal.returns
returns c = (
  c.loop-number.invariant.way,
  all_firsts c.args.rows.now c.loop-number.work.made.items c.loop-number.number (omega arith) c.loop-number.invariant.firsts,
)

pub returns-in_default : goal.returns-in_default
returns-in_default c =
    ends_other (given c.args.rows.now) c.args.limit (entries_of c.divide.new.work.made.items) (DividesRow c.loop-number.number (force c.args.rows.now c.loop-number.work.made.items) (force c.args.rows.now c.divide.new.work.made.items))
    (DividesAll (force c.args.rows.now c.args.work.now.made.items) (force c.args.rows.now c.divide.new.work.made.items)) c.in_ok-outcome.outcome c.in_default.not-On c.in_ok-outcome.ensures
