use Rattle.sv_lin.specs.Holding.{CompletesColumn, CompletesAll}
use Rattle.sv_lin.specs.UnderWay.{given, force, entries_of}
use Rattle.sv_lin.proofs.Gathering.{at_on, ends_other, all_left, one_less, none_left_over, no_items}
use Rattle.sv_lin.proofs.rounds.eliminate_from.Goals as goal

pub loop-column-init : goal.loop-column-init
loop-column-init c = record { way = c.requires.way.0; divided = c.requires.way.1; left = all_left (force c.args.rows.now c.args.work.now.made.items) c.args.columns.now }

pub loop-column-preserved : goal.loop-column-preserved
loop-column-preserved c =
    let x = c.in-Some.field-0-0.now in
    let w = at_on (given c.args.rows.now) c.args.limit (entries_of c.eliminate_column.new.work.made.items) (CompletesColumn x (force c.args.rows.now c.loop-column.work.made.items) (force c.args.rows.now c.eliminate_column.new.work.made.items)) c.in_ok-outcome.outcome c.in-On.is c.in_ok-outcome.ensures in record {
      way = w.0;
      divided = w.1.1;
      left = one_less (given c.args.rows.now) (force c.args.rows.now c.loop-column.work.made.items) (force c.args.rows.now c.eliminate_column.new.work.made.items) c.args.columns.now c.loop-column.left.now c.in-Some.rest.now x c.requires.columns c.loop-column.invariant.left c.in-Some.ensures.cases.0 w.1.0;
    }

pub returns : goal.returns
returns c = (
  c.loop-column.invariant.way,
  (
    none_left_over (given c.args.rows.now) c.args.limit (entries_of c.loop-column.work.made.items) c.args.columns.now c.loop-column.left.now c.loop-column.invariant.way c.requires.columns c.loop-column.invariant.left
        (no_items c.loop-column.left.now c.in_default.ensures.cases),
    c.loop-column.invariant.divided,
  ),
)

pub returns-in_default-2 : goal.returns-in_default-2
returns-in_default-2 c =
    let x = c.in-Some.field-0-0.now in
    ends_other (given c.args.rows.now) c.args.limit (entries_of c.eliminate_column.new.work.made.items) (CompletesColumn x (force c.args.rows.now c.loop-column.work.made.items) (force c.args.rows.now c.eliminate_column.new.work.made.items)) (CompletesAll (force c.args.rows.now c.args.work.now.made.items) (force c.args.rows.now c.eliminate_column.new.work.made.items)) c.in_ok-outcome.outcome c.in_default-2.not-On c.in_ok-outcome.ensures

pub eliminate_column-requires : goal.eliminate_column-requires
eliminate_column-requires c = (c.loop-column.invariant.way, c.loop-column.invariant.divided)
