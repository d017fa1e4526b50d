use Rattle.std.proofs.Common.{◌≡◌, ◌++◌, drop}
use Rattle.sv_target.specs.TargetNumbers.{targets_inside}
use Rattle.sv_target.proofs.numbers.targets_inside.Given as goal

abbrev pub invariant-loop-c : goal.invariant-loop-c
invariant-loop-c l = l.found ++ targets_inside l.text (drop l.c-index l.contracts) ≡ targets_inside l.text l.contracts
