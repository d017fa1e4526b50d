use Rattle.std.proofs.Common.{◌≤◌, ◌*◌}
use Rattle.sv_first_judge.proofs.FormLemmas.{AddsUpTo}
use Rattle.sv_first_judge.specs.Assignments.{values_of, count_of}
use Rattle.sv_first_judge.specs.Rows.{form_of, weight_of}
use Rattle.sv_first_judge.specs.Weights.{most_after}
use Rattle.sv_first_judge.proofs.values.Values.sum_row.Given as goal

abbrev pub invariant-loop-item : goal.invariant-loop-item
invariant-loop-item l = record {
  form : AddsUpTo (values_of l.self) l.items (form_of l.sum) l.item-index;
  weight : weight_of l.sum ≤ l.item-index * most_after (count_of l.self);
}
