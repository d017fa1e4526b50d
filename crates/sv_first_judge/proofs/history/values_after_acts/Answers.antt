use Rattle.std.proofs.Common.{◌∙◌, arith}
use Rattle.sv_first_judge.specs.Marks.{values_of}
use Rattle.sv_first_judge.proofs.HistoryLemmas.{run_more}
use Rattle.sv_first_judge.proofs.history.values_after_acts.Goals as goal

pub loop-act-preserved : goal.loop-act-preserved
loop-act-preserved c = record {
  rest =
      run_more c.args.acts.now c.loop-act.act-index c.loop-act.gas c.act-item.result (values_of c.loop-act.values) (values_of c.in_ok-values.values)
      (omega arith) (omega arith) c.act-item.is c.in_ok-values.ensures.values
      ∙ c.loop-act.invariant.rest;
  len = omega (arith, c.in_ok-values.ensures.len, c.loop-act.invariant.len);
}
