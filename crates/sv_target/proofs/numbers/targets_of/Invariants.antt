use Rattle.std.proofs.Common.{◌≡◌, ◌++◌, map, drop}
use Rattle.sv_target.specs.TargetNumbers.{target_of}
use Rattle.sv_target.proofs.numbers.targets_of.Given as goal

abbrev pub invariant-loop-d : goal.invariant-loop-d
invariant-loop-d l = l.found ++ map (target_of l.text) (drop l.d-index l.list) ≡ map (target_of l.text) l.list
