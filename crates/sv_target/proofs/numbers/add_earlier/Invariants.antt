use Rattle.std.proofs.Common.{◌≡◌, ◌+◌, drop}
use Rattle.std.specs.List.{count_by}
use Rattle.sv_target.specs.TargetNumbers.{is_earlier}
use Rattle.sv_target.proofs.numbers.add_earlier.Given as goal

abbrev pub invariant-loop-d : goal.invariant-loop-d
invariant-loop-d l = l.sum + count_by (is_earlier l.kind l.byte) (drop l.d-index l.list) ≡ l.count + count_by (is_earlier l.kind l.byte) l.list
