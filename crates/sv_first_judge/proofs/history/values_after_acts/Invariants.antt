use Rattle.std.proofs.Common.{◌≡◌, drop, length}
use Rattle.sv_first_judge.specs.History.{run}
use Rattle.sv_first_judge.specs.Marks.{values_of}
use Rattle.sv_first_judge.proofs.history.values_after_acts.Given as goal

abbrev pub invariant-loop-act : goal.invariant-loop-act
invariant-loop-act l = record {
  rest : run (drop l.act-index l.acts) l.gas (values_of l.values) ≡ run l.acts l.fn.gas (values_of l.fn.values);
  len : length l.values ≡ length l.fn.values;
}
