use Rattle.std.proofs.Common.{◌≡◌, ◌++◌, drop}
use Rattle.sv_base.specs.BaseNumbers.{base_numbers}
use Rattle.sv_base.proofs.numbers.base_numbers.Given as goal

abbrev pub invariant-loop-b : goal.invariant-loop-b
invariant-loop-b l = l.numbers ++ base_numbers l.names (drop l.b-index l.bases) ≡ base_numbers l.names l.bases
