use Rattle.std.proofs.Common.{inr, arith, ◌<◌, subst}
use Rattle.sv_lin.specs.Eliminations.{AreExceedingRows}
use Rattle.sv_lin.specs.UnderWay.{given, force, entries_of, row_made, IsSum, Enters}
use Rattle.sv_lin.specs.Holding.{CombinesPair}
use Rattle.sv_lin.proofs.Dividing.{sum_was_divided}
use Rattle.sv_lin.proofs.Combining.{at_none, at_some}
use Rattle.sv_lin.proofs.Forces.{room}
use Rattle.sv_lin.proofs.Gathering.{at_on, ends_other, sum_was}
use Rattle.sv_lin.proofs.Making.{done_ends}
use Rattle.sv_lin.proofs.rounds.combine.Goals as goal

pub returns-in_default : goal.returns-in_default
returns-in_default c = (
  c.requires.way.0,
  at_none c.in_ok-made.made (AreExceedingRows (force c.args.rows.now c.args.work.now.made.items) c.args.upper c.args.lower) (λ m. IsSum (force c.args.rows.now c.args.work.now.made.items) c.args.upper c.args.lower m) c.in_default.is c.in_ok-made.ensures,
  c.requires.way.1,
)

pub len-before-requires : goal.len-before-requires
len-before-requires c = let r = room c.args.rows.now c.args.limit c.args.work.now.made.items c.requires.way.0 in omega (arith, r)

pub enter-requires-clause-sound : goal.enter-requires-clause-sound
enter-requires-clause-sound c =
    inr (c.args.upper, c.args.lower, at_some c.in_ok-made.made (AreExceedingRows (force c.args.rows.now c.args.work.now.made.items) c.args.upper c.args.lower) (λ m. IsSum (force c.args.rows.now c.args.work.now.made.items) c.args.upper c.args.lower m) c.in-Some.made c.in-Some.is c.in_ok-made.ensures)

pub len-after-requires : goal.len-after-requires
len-after-requires c =
    let w = at_on (given c.args.rows.now) c.args.limit (entries_of c.enter.new.work.made.items) (Enters (force c.args.rows.now c.args.work.now.made.items) (row_made c.in-Some.made) (force c.args.rows.now c.enter.new.work.made.items)) c.in_ok-outcome.outcome c.in-On.is c.in_ok-outcome.ensures in
    let r = room c.args.rows.now c.args.limit c.enter.new.work.made.items w.0 in
    omega (arith, r)

pub divide-requires-clause-way : goal.divide-requires-clause-way
divide-requires-clause-way c =
    (at_on (given c.args.rows.now) c.args.limit (entries_of c.enter.new.work.made.items) (Enters (force c.args.rows.now c.args.work.now.made.items) (row_made c.in-Some.made) (force c.args.rows.now c.enter.new.work.made.items)) c.in_ok-outcome.outcome c.in-On.is c.in_ok-outcome.ensures).0

pub divide-requires-clause-there : goal.divide-requires-clause-there
divide-requires-clause-there c = subst (λ n. c.len-before.result < n) c.len-after.ensures c.if-before-after.true

pub returns-then-before-after : goal.returns-then-before-after
returns-then-before-after c =
    let w = at_on (given c.args.rows.now) c.args.limit (entries_of c.enter.new.work.made.items) (Enters (force c.args.rows.now c.args.work.now.made.items) (row_made c.in-Some.made) (force c.args.rows.now c.enter.new.work.made.items)) c.in_ok-outcome.outcome c.in-On.is c.in_ok-outcome.ensures in
    done_ends c.divide.result c.args.rows.now c.args.limit c.args.work.now.made.items c.enter.new.work.made.items c.divide.new.work.made.items c.in-Some.made c.args.upper c.args.lower c.len-before.result c.len-after.result c.requires.way.1
    (at_some c.in_ok-made.made (AreExceedingRows (force c.args.rows.now c.args.work.now.made.items) c.args.upper c.args.lower) (λ m. IsSum (force c.args.rows.now c.args.work.now.made.items) c.args.upper c.args.lower m) c.in-Some.made c.in-Some.is c.in_ok-made.ensures)
    w.1 c.len-before.ensures c.len-after.ensures c.if-before-after.true c.divide.ensures

pub returns-else-before-after : goal.returns-else-before-after
returns-else-before-after c =
    let w = at_on (given c.args.rows.now) c.args.limit (entries_of c.enter.new.work.made.items) (Enters (force c.args.rows.now c.args.work.now.made.items) (row_made c.in-Some.made) (force c.args.rows.now c.enter.new.work.made.items)) c.in_ok-outcome.outcome c.in-On.is c.in_ok-outcome.ensures in (
      w.0,
      (
        sum_was (force c.args.rows.now c.args.work.now.made.items) (force c.args.rows.now c.enter.new.work.made.items) c.in-Some.made c.args.upper c.args.lower
            (at_some c.in_ok-made.made (AreExceedingRows (force c.args.rows.now c.args.work.now.made.items) c.args.upper c.args.lower) (λ m. IsSum (force c.args.rows.now c.args.work.now.made.items) c.args.upper c.args.lower m) c.in-Some.made c.in-Some.is c.in_ok-made.ensures)
            w.1,
        sum_was_divided (force c.args.rows.now c.args.work.now.made.items) (force c.args.rows.now c.enter.new.work.made.items) (row_made c.in-Some.made) c.len-before.result c.len-after.result c.requires.way.1 w.1
            c.len-before.ensures c.len-after.ensures c.if-before-after.false,
      ),
    )

pub returns-in_default-2 : goal.returns-in_default-2
returns-in_default-2 c =
    ends_other (given c.args.rows.now) c.args.limit (entries_of c.enter.new.work.made.items) (Enters (force c.args.rows.now c.args.work.now.made.items) (row_made c.in-Some.made) (force c.args.rows.now c.enter.new.work.made.items))
    (CombinesPair c.args.upper c.args.lower (force c.args.rows.now c.args.work.now.made.items) (force c.args.rows.now c.enter.new.work.made.items)) c.in_ok-outcome.outcome c.in_default-2.not-On c.in_ok-outcome.ensures

pub enter-requires-clause-way : goal.enter-requires-clause-way
enter-requires-clause-way c = c.requires.way.0

pub combination-requires-clause-normal : goal.combination-requires-clause-normal
combination-requires-clause-normal c = c.requires.way.0.normal
