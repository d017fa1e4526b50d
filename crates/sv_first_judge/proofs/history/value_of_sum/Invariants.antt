use Rattle.std.proofs.Common.{◌≡◌, ◌+◌, ◌<◌, drop}
use Rattle.sv_first_judge.specs.History.{range, sum_value}
use Rattle.sv_first_judge.specs.Marks.{values_of}
use Rattle.sv_first_judge.proofs.history.value_of_sum.Given as goal

abbrev pub invariant-loop-item : goal.invariant-loop-item
invariant-loop-item l = record {
  fits : l.sum < range;
  sum : l.sum + sum_value (values_of l.values) (drop l.item-index l.items) ≡ sum_value (values_of l.values) l.items;
}
