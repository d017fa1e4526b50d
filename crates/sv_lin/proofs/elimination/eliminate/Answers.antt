use Rattle.std.proofs.Common.{map, sym, ap, subst, arith}
use Rattle.std.proofs.lemmas.List.{length-map}
use Rattle.sv_cert.specs.PlainLogs.{plain_entry, plain_row}
use Rattle.sv_lin.specs.Eliminations.{IsContradiction}
use Rattle.sv_lin.specs.EliminationAnswers.{IsAnswer}
use Rattle.sv_lin.specs.Holding.{CompletesAll}
use Rattle.sv_lin.specs.UnderWay.{given, force, entries_of, IsUnderWay, AreColumns}
use Rattle.sv_lin.proofs.Gathering.{at_on, if_ok}
use Rattle.sv_lin.proofs.Answering.{started, given_contradicts, stop_answers, small_outcome}
use Rattle.sv_lin.proofs.elimination.eliminate.Goals as goal

pub returns-then-has_absurd : goal.returns-then-has_absurd
returns-then-has_absurd c =
    let h = c.if-has_absurd.ensures in
    subst (λ es. IsContradiction (given c.args.rows.now) (map plain_entry es)) (sym c.new.ensures) (given_contradicts (given c.args.rows.now) h.0 h.1 h.2)

pub eliminate_columns-requires-clause-way : goal.eliminate_columns-requires-clause-way
eliminate_columns-requires-clause-way c =
    subst (IsUnderWay (given c.args.rows.now) c.args.limit) (sym (ap entries_of c.new-work.ensures))
    (started (given c.args.rows.now) c.args.limit (let a = c.requires.few in let l = length-map c.args.rows.now plain_row in omega (arith, a, l)) c.requires.normal c.requires.limit.0 c.requires.limit.1 c.if-has_absurd.ensures)

pub eliminate_columns-requires-clause-columns : goal.eliminate_columns-requires-clause-columns
eliminate_columns-requires-clause-columns c = subst (AreColumns (given c.args.rows.now)) (sym c.as_slice-all.ensures.value) c.in_ok-columns.ensures

pub place-requires : goal.place-requires
place-requires c =
    let w = at_on (given c.args.rows.now) c.args.limit (entries_of c.eliminate_columns.new.work.made.items) (CompletesAll (force c.args.rows.now c.new-work.result.made.items) (force c.args.rows.now c.eliminate_columns.new.work.made.items)) c.in_ok-outcome.outcome c.in-On.is c.in_ok-outcome.ensures in record {
      limit = c.args.limit;
      way = w.0;
      columns = subst (AreColumns (given c.args.rows.now)) (sym c.as_slice-all.ensures.value) c.in_ok-columns.ensures;
      complete = w.1.0;
      divided = w.1.1;
    }

pub returns-in-On : goal.returns-in-On
returns-in-On c = if_ok c.place.result _ (λ a. IsAnswer (given c.args.rows.now) c.args.limit a) (λ a h. h c.args.limit) c.place.ensures

pub stopped-requires : goal.stopped-requires
stopped-requires c = small_outcome c.args.rows.now c.args.limit c.eliminate_columns.new.work.made.items (CompletesAll (force c.args.rows.now c.new-work.result.made.items) (force c.args.rows.now c.eliminate_columns.new.work.made.items)) c.in_ok-outcome.outcome c.in_ok-outcome.ensures

pub returns : goal.returns
returns c =
    stop_answers c.stopped.result (given c.args.rows.now) c.args.limit (entries_of c.eliminate_columns.new.work.made.items) (CompletesAll (force c.args.rows.now c.new-work.result.made.items) (force c.args.rows.now c.eliminate_columns.new.work.made.items)) c.in_ok-outcome.outcome c.in_default.not-On
    c.stopped.ensures c.in_ok-outcome.ensures
